-- A DO whose iterations have one more private scalar makes no race: where the old run has none, the new acts have none.
use Rattle.std.proofs.Common.{◌≡◌, ℕ, List, [], ◌∷◌, Bool, true, false, eqb, refl, sym, subst, ◌∙◌, ◌⊎◌, inl, inr, if◌then◌else◌}
use Rattle.std.specs.Prelude.{◌&&◌, ◌||◌}
use Rattle.std.specs.List.{list_any}
use Rattle.std.specs.Str.Lines.{lines}
use Rattle.std.proofs.lemmas.Bool.{and_parts, or_parts, both_ways}
use Rattle.ped_base.specs.Lists.{is_among}
use Rattle.ped_tree.specs.Tree.{Do, ProgramTree}
use Rattle.ped_tree.specs.Nests.{Loop}
use Rattle.ped_tree.specs.Numbering.{statements_count}
use Rattle.ped_rules.specs.ped_symbols.specs.NameRefusals.{IsValid}
use Rattle.ped_rules.specs.ped_store.specs.Cells.{Cell, Private, Iteration, same_cell}
use Rattle.ped_rules.specs.ped_store.specs.Stores.{Store, store_at_start}
use Rattle.ped_rules.specs.ped_store.specs.Acts.{Turn, Place, Act, iterations_of}
use Rattle.ped_rules.specs.ped_store.specs.Races.{Access, accesses, conflict, are_apart, race, HasNoRace}
use Rattle.ped_rules.specs.ped_laws.specs.Acts.Orders.{IsIn, StandsBefore}
use Rattle.ped_rules.specs.ped_laws.specs.Acts.Pieces.{new_parts}
use Rattle.ped_rules.specs.ped_laws.proofs.ActLaws.Lists.{first_in, second_in}
use Rattle.ped_rules.specs.ped_laws.proofs.ActLaws.SameCells.{cell_is}
use Rattle.ped_rules.specs.ped_eval.specs.Scopes.{Setting, turns_of}
use Rattle.ped_rules.specs.ped_eval.specs.Runs.{run_all}
use Rattle.ped_rules.specs.ped_eval.specs.Outcomes.{setting_of, run_of}
use Rattle.ped_rules.specs.ped_flow.specs.Questions.{LoopOf}
use Rattle.ped_rules.specs.ped_flow.specs.PlainBounds.{nest_round}
use Rattle.ped_rules.specs.ped_laws.specs.FlowRuns.Exits.{IsOneToOne}
use Rattle.ped_rules.specs.ped_weaves.specs.Sources.{RaceSomewhere}
use Rattle.ped_rules.specs.ped_weaves.proofs.WeaveLaws.RaceSources.{pairs_free}
use Rattle.ped_rules.specs.ped_steps.specs.Replacing.{alone}
use Rattle.ped_rules.specs.ped_steps.specs.Runs.Pasting.{AreTurnsOf, is_in_parallel}
use Rattle.ped_rules.specs.ped_steps.specs.Runs.Renumbering.{IsToldBack, renumbered}
use Rattle.ped_rules.specs.ped_loop_runs.specs.Meaning.{RaceFreeInstead}
use Rattle.ped_rules.specs.ped_loop_runs.proofs.LoopLaws.OldRaces as origins
use Rattle.ped_rules.proofs.NameLaws.RenumberedRaces.{references_renumbered}
use Rattle.ped_scalar.proofs.PrivatisedCells.{same_end, same_cells}
use Rattle.ped_scalar.proofs.PrivatisedParts.{fresh, fresh_is}
use Rattle.ped_scalar.proofs.PrivatisedOrigins.{IsCopied, HasOrigin, IsOfLoop, no_access, access_comes}

-- a place in iterations of DO loops that aren't PARALLEL is apart from none
none_apart : (number : ℕ → ℕ) (ls : List Loop) (ts us : List Turn) → list_any (λ m. m.head.parallel) ls ≡ false → AreTurnsOf number ls ts → are_apart ts us ≡ false
none_apart number ls [] us k r = refl
none_apart number [] (t ∷ ts) us k r = absurd r
none_apart number (m ∷ ms) (t ∷ ts) [] k r = refl
none_apart number (m ∷ ms) (t ∷ ts) (u ∷ us) k r =
    let o = or_parts m.head.parallel (list_any (λ n. n.head.parallel) ms) k in
    go (eqb t.statement u.statement) (eqb t.number u.number) (none_apart number ms ts us o.1 r.2) (r.1 ∙ o.0)
  where
    go : (a b : Bool) → are_apart ts us ≡ false → t.parallel ≡ false → a && (if b then are_apart ts us else t.parallel) ≡ false
    go false b more e = refl
    go true true more e = more
    go true false more e = e

same_path : (x : List ℕ) (a b : List Iteration) → Private x a ≡ Private x b → a ≡ b
same_path x a b e = cc

module _ (t : ProgramTree) (l : ℕ) (loop : LoopOf t l) (x : List ℕ) (one : IsOneToOne (setting_of t).number) (sequential : loop.head.parallel ≡ false) (absent : is_among x loop.head.private ≡ false) (outside : is_in_parallel t l ≡ false) (data_bytes : List ℕ) where
  abbrev p : Setting
  p = setting_of t

  abbrev start : Store
  start = store_at_start (lines data_bytes)

  abbrev whole : List Act
  whole = (run_of t data_bytes).acts

  abbrev From : Access → Type 0
  From b = HasOrigin p t l x whole b

  uncopied : (b : Access) → IsIn b (accesses whole) → (own : Cell) (c : Cell) → IsCopied p t l x own c → b.cell ≡ c → ⊥
  uncopied b i own c k e = no_access t l loop x p one sequential absent start b i (record { path = iterations_of (turns_of k.scope); number = k.number; is = e ∙ k.copied_is })

  -- what stands at the place of the DO is apart from nothing
  at_loop : (b c : Access) → IsOfLoop p t l b → are_apart b.place.turns c.place.turns ≡ true → ⊥
  at_loop b c o apart = both_ways (are_apart b.place.turns c.place.turns) (subst (λ (z : Place). are_apart z.turns c.place.turns ≡ false) (sym o.place) (none_apart p.number (nest_round t l) (turns_of o.scope) c.place.turns outside o.round.turns)) apart

  -- accesses of one cell come from accesses of one cell
  one_cell : (b c : Access) (v : From b) (w : From c) → b.cell ≡ c.cell → v.origin.cell ≡ w.origin.cell
  one_cell b c v w e = by v.cell w.cell
    where
      by : (v.origin.cell ≡ b.cell) ⊎ IsCopied p t l x v.origin.cell b.cell → (w.origin.cell ≡ c.cell) ⊎ IsCopied p t l x w.origin.cell c.cell → v.origin.cell ≡ w.origin.cell
      by (inl f) (inl g) = f ∙ e ∙ sym g
      by (inl f) (inr k) = absurd (uncopied v.origin v.found w.origin.cell c.cell k (f ∙ e))
      by (inr k) (inl g) = absurd (uncopied w.origin w.found v.origin.cell b.cell k (g ∙ sym e))
      by (inr j) (inr k) =
          let paths = same_path x _ _ (sym j.copied_is ∙ e ∙ k.copied_is) in
          j.own_is ∙ same_cells p t one x j.scope k.scope j.iterations k.iterations (same_end _ _ _ _ paths).0 ∙ sym k.own_is

  module _ (u : ProgramTree) (valid : IsValid u) where
    abbrev q : Setting
    q = renumbered (λ n. n) (setting_of u)

    told : IsToldBack (λ n. n) (λ n. n)
    told = record { back = λ n. refl }

    -- where the old run has no race, the new acts have none
    pub privatised_race_free : RaceFreeInstead p t start l (statements_count (alone (Do loop.head loop.body))) (run_all p (alone (Do loop.head loop.body)) l) (fresh t l loop x p one sequential absent) (run_all q u.body 1 [])
    privatised_race_free parts olds_are news_are exchanged free =
        pairs_free whole (new_parts parts) race_before (subst (λ (acts : List Act). HasNoRace (accesses acts)) olds_are free)
      where
        come : (b : Access) → IsIn b (accesses (new_parts parts)) → From b ⊎ IsOfLoop p t l b
        come b i = access_comes t l loop x p one sequential absent start (fresh t l loop x p one sequential absent) (fresh_is t l loop x p one sequential absent) parts (λ a w. subst (IsIn a) olds_are w) exchanged b i

        by : (b c : Access) → are_apart b.place.turns c.place.turns ≡ true → are_apart c.place.turns b.place.turns ≡ true → conflict b c ≡ true → From b ⊎ IsOfLoop p t l b → From c ⊎ IsOfLoop p t l c → RaceSomewhere whole
        by b c apart back meets (inr o) w = absurd (at_loop b c o apart)
        by b c apart back meets (inl v) (inr o) = absurd (at_loop c b o back)
        by b c apart back meets (inl v) (inl w) =
            let parts_of = and_parts (same_cell b.cell c.cell) (b.writes || c.writes) meets in
            origins.somewhere t q u.body data_bytes v.origin w.origin v.found w.found (one_cell b c v w (cell_is b.cell c.cell parts_of.0))
            ((λ i. v.writes i || w.writes i) ∙ parts_of.1) ((λ i. are_apart (v.place i).turns (w.place i).turns) ∙ apart)

        race_before : (b c : Access) → StandsBefore b c (accesses (new_parts parts)) → race b c ≡ true → RaceSomewhere whole
        race_before b c before races =
            let i = first_in b c (accesses (new_parts parts)) before in
            let j = second_in b c (accesses (new_parts parts)) before in
            let there : (d : Access) → IsIn d (accesses (new_parts parts)) → IsIn d (accesses (run_all q u.body 1 [] start).acts) = λ d k. subst (λ (acts : List Act). IsIn d (accesses acts)) news_are k in
            let g = references_renumbered (λ n. n) (λ n. n) told u valid data_bytes b c (there b i) (there c j) races in
            by b c g.2 g.3 g.4 (come b i) (come c j)
