-- Accesses of a new run that race, and what stands outside the execution of a DO: the accesses that they come from race in the old run.
use Rattle.std.proofs.Common.{List, [], ap, arith, inl, inr, refl, subst, sym, true, ℕ, ◌&&◌, ◌++◌, ◌<◌, ◌||◌, ◌∙◌, ◌∷◌, ◌≡◌, ◌⊎◌}
use Rattle.std.specs.Str.Lines.{lines}
use Rattle.ped_bodies.specs.ped_flow.specs.ped_tree.specs.Tree.{StmtTrees, ProgramTree}
use Rattle.ped_bodies.specs.ped_store.specs.Stores.{Store, store_at_start}
use Rattle.ped_bodies.specs.ped_store.specs.Acts.{Turn, Place, Act, iterations_of}
use Rattle.ped_bodies.specs.ped_store.specs.Races.{Access, accesses, are_apart}
use Rattle.ped_bodies.specs.ped_eval.specs.Scopes.{Setting, Scope, turns_of}
use Rattle.ped_bodies.specs.ped_eval.specs.Outcomes.{setting_of, run_of}
use Rattle.ped_bodies.specs.ped_eval.specs.Runs.{run_all}
use Rattle.ped_bodies.specs.ped_laws.specs.Acts.Orders.{IsIn}
use Rattle.ped_bodies.specs.ped_laws.proofs.ActLaws.Lists.{in_right}
use Rattle.ped_bodies.specs.ped_laws.proofs.ActLaws.SameCells.{is_cell}
use Rattle.ped_bodies.specs.ped_laws.proofs.ActLaws.Conflicting.{access_place}
use Rattle.ped_bodies.specs.ped_laws.proofs.ActLaws.RaceFree.{apart_flip}
use Rattle.ped_bodies.specs.ped_laws.proofs.RunLaws.Turning.{At}
use Rattle.ped_bodies.specs.ped_laws.proofs.RunLaws.Placing.{kinds_of_run}
use Rattle.ped_bodies.specs.ped_steps.proofs.RunLaws.AccessTouches.{accesses_from, touch_of}
use Rattle.ped_bodies.specs.ped_weaves.specs.Sources.{RaceSomewhere}
use Rattle.ped_loop_runs.specs.Executions.{StandsInside, LeaveCopies}
use Rattle.ped_loop_runs.proofs.LoopLaws.ApartTurns.{apart_first, apart_split, at_of, iterations_append, none_within, or_turned}
use Rattle.ped_loop_runs.proofs.LoopLaws.RacesByReferences.{act_good}

-- the run of a program, and the one of new statements in a setting
module _ (t : ProgramTree) (q : Setting) (body : StmtTrees) (data_bytes : List ℕ) where
  abbrev start : Store
  start = store_at_start (lines data_bytes)

  abbrev olds : List Act
  olds = (run_of t data_bytes).acts

  abbrev news : List Act
  news = (run_all q body 1 [] (store_at_start (lines data_bytes))).acts

  -- an access reaches its cell from its place
  pub reaches : (b : Access) → IsIn b (accesses (run_all q body 1 [] (store_at_start (lines data_bytes))).acts) → At b.place.turns b.cell
  reaches b i =
      let a = accesses_from news b i in
      let v = touch_of a.0 a.0.touches b a.2 in
      let at : At a.0.place.turns v.0.cell = at_of a.0.place.turns v.0.manner v.0.cell v.0.reference ((act_good q body 1 [] start a.0 a.1).0 v.0 v.1) in
      subst (λ (y : Access). At y.place.turns y.cell) (sym v.3) at

  pub turned_apart : (b c : Access) → IsIn b (accesses (run_of t data_bytes).acts) → IsIn c (accesses (run_of t data_bytes).acts) → are_apart b.place.turns c.place.turns ≡ true → are_apart c.place.turns b.place.turns ≡ true
  turned_apart b c i j apart =
      let y = accesses_from olds b i in
      let z = accesses_from olds c j in
      let f = access_place y.0 b y.2 in
      let g = access_place z.0 c z.2 in
      (λ k. are_apart (g k).turns (f k).turns) ∙ apart_flip y.0.place.turns z.0.place.turns (kinds_of_run (setting_of t) t.body 1 start y.0 z.0 (λ m n e. e) y.1 z.1) ((λ k. are_apart (sym f k).turns (sym g k).turns) ∙ apart)

  -- two new accesses that race
  pub record Race (b c : Access) : Type 0 where
    pub one : IsIn b (accesses (run_all q body 1 [] (store_at_start (lines data_bytes))).acts)
    pub other : IsIn c (accesses (run_all q body 1 [] (store_at_start (lines data_bytes))).acts)
    pub apart : are_apart b.place.turns c.place.turns ≡ true
    pub back : are_apart c.place.turns b.place.turns ≡ true
    pub cells : b.cell ≡ c.cell
    pub writing : b.writes || c.writes ≡ true

  pub flipped : (b c : Access) → Race b c → Race c b
  flipped b c r = record { one = r.other; other = r.one; apart = r.back; back = r.apart; cells = sym r.cells; writing = or_turned b.writes c.writes r.writing }

  -- two old ones that they come from race
  pub somewhere : (y z : Access) → IsIn y (accesses (run_of t data_bytes).acts) → IsIn z (accesses (run_of t data_bytes).acts) → y.cell ≡ z.cell → y.writes || z.writes ≡ true → are_apart y.place.turns z.place.turns ≡ true → RaceSomewhere (run_of t data_bytes).acts
  somewhere y z i j cells writing apart = record {
    one = y;
    other = z;
    one_in = i;
    other_in = j;
    apart = (apart, turned_apart y z i j apart);
    conflicting = let alike = is_cell y.cell z.cell cells in λ k. alike k && writing k;
  }

-- what is done before or behind an execution stands outside it
pub acts_outside : (p : Setting) (scope : Scope) (l count : ℕ) (acts : List Act) → LeaveCopies p scope l count acts → (c : Access) → IsIn c (accesses acts) → StandsInside p scope l count c.place.turns → ⊥
acts_outside p scope l count acts leave c i k =
    let a = accesses_from acts c i in
    (leave a.0 a.1).1 (subst (λ (q : Place). StandsInside p scope l count q.turns) (access_place a.0 c a.2) k)

-- an access that stands outside is apart from the iterations round the DO, where another one, apart from it, stands in an iteration of the DO, or of a loop in which it doesn't stand
pub round_apart : (t : ProgramTree) (scope : Scope) (l count : ℕ) → 0 < count → (b c : Access) → are_apart b.place.turns c.place.turns ≡ true → (StandsInside (setting_of t) scope l count c.place.turns → ⊥) → (extra : List Turn) → b.place.turns ≡ turns_of scope ++ extra
    → ((v : Turn) (more : List Turn) → extra ≡ v ∷ more → (v.statement ≡ l) ⊎ ((u : Turn) → IsIn u c.place.turns → v.statement ≡ u.statement → ⊥)) → are_apart (turns_of scope) c.place.turns ≡ true
round_apart t scope l count some b c apart outside extra place whose = elim (apart_split (turns_of scope) extra c.place.turns ((λ i. are_apart (sym place i) c.place.turns) ∙ apart)) [
  | inl m ↦ m
  | inr m ↦ absurd (by extra refl m.0 m.1 m.2 m.3 m.4)
]
  where
    -- what stands in an iteration of the DO stands inside
    inside : (rs vs : List Turn) → c.place.turns ≡ rs ++ vs → iterations_of rs ≡ iterations_of (turns_of scope) → (v : Turn) (more : List Turn) → vs ≡ v ∷ more → l ≡ v.statement → ⊥
    inside rs vs is alike v more first statement =
        outside (record {
          statement = l;
          from = omega arith;
          to = omega (arith, some);
          number = v.number;
          rest = iterations_of more;
          is = ap iterations_of (is ∙ ap (λ (zs : List Turn). rs ++ zs) first) ∙ iterations_append rs (v ∷ more) ∙ (λ i. alike i ++ record { statement = sym statement i; number = v.number } ∷ iterations_of more);
        })

    by : (zs : List Turn) → extra ≡ zs → (rs vs : List Turn) → c.place.turns ≡ rs ++ vs → iterations_of rs ≡ iterations_of (turns_of scope) → are_apart extra vs ≡ true → ⊥
    by [] e rs vs is alike differ = none_within vs (ap (λ (xs : List Turn). are_apart xs vs) (sym e) ∙ differ)
    by (v ∷ more) e rs vs is alike differ =
        let first = apart_first v more vs (ap (λ (xs : List Turn). are_apart xs vs) (sym e) ∙ differ) in
        elim (whose v more e) [
          | inl own ↦ inside rs vs is alike first.0 first.1 first.2 (sym own ∙ first.3)
          | inr none ↦ none first.0 (subst (λ (ts : List Turn). IsIn first.0 ts) (sym (is ∙ ap (λ (xs : List Turn). rs ++ xs) first.2)) (in_right first.0 rs (first.0 ∷ first.1) (inl refl))) first.3
        ]
