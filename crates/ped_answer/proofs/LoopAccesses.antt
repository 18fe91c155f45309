-- An access that no reference makes is one that a DO makes itself; so each conflict of a run has its row, or a DO makes one of both.
use Rattle.std.proofs.Common.{◌≡◌, ℕ, ◌<◌, List, [], ◌∷◌, ◌++◌, map, filter, cond, Bool, true, false, not, ◌||◌, refl, sym, ap, ◌∙◌, subst, ◌⊎◌, inl, inr, arith}
use Rattle.std.specs.Prelude.{◌==◌}
use Rattle.std.specs.Str.Lines.{lines}
use Rattle.std.proofs.lemmas.Bool.{both_ways}
use Rattle.std.proofs.lemmas.Bool.Decides.{nat_tests}
use Rattle.ped_tree.specs.Tree.{ProgramTree}
use Rattle.ped_session.specs.ped_rules.specs.ped_store.specs.Cells.{Cell, Scalar, Element, Private, In, Out}
use Rattle.ped_session.specs.ped_rules.specs.ped_store.specs.Stores.{store_at_start}
use Rattle.ped_session.specs.ped_rules.specs.ped_store.specs.Acts.{Manner, reads, writes, is_told, Touch, Turn, Place, Act}
use Rattle.ped_session.specs.ped_rules.specs.ped_store.specs.Races.{Access, is_lines, is_write, is_access, accesses}
use Rattle.ped_session.specs.ped_rules.specs.ped_eval.specs.Outcomes.{setting_of, run_of}
use Rattle.ped_session.specs.ped_laws.specs.Acts.Orders.{IsIn}
use Rattle.ped_session.specs.ped_laws.specs.Conflicts.Covered.{ComeInRun}
use Rattle.ped_session.specs.ped_laws.proofs.ActLaws.Lists.{in_left, in_right}
use Rattle.ped_session.specs.ped_laws.proofs.ActLaws.Conflicting.{access_by}
use Rattle.ped_session.specs.ped_laws.proofs.RunLaws.Touches.{Fine, Good, all_good}
use Rattle.ped_session.specs.ped_laws.proofs.ConflictLaws.Scoping.{act_of_access}
use Rattle.ped_session.specs.ped_laws.proofs.ConflictLaws.CoveringCells.{name_in}
use Rattle.ped_session.specs.ped_laws.proofs.ConflictLaws.CoveringIndices.{Near}
use Rattle.ped_session.specs.ped_laws.proofs.ConflictLaws.CoveringTelling.{Tells, program_tells}
use Rattle.ped_session.specs.ped_laws.proofs.ConflictLaws.CoveringRuns.{first_comes, second_comes}
use Rattle.ped_answer.specs.Covered.{IsCellOf, IsByLoop, in_body, when_left}
use Rattle.ped_answer.proofs.LoopStores.{Stores, program_stores}

-- an access of an act is one of its touches
touch_of : (a : Act) (touches : List Touch) (x : Access) → IsIn x (map (access_by a) (filter is_access touches)) → (u : Touch) × IsIn u touches × (is_access u ≡ true) × (x ≡ access_by a u)
touch_of a [] x i = absurd i
touch_of a (u ∷ us) x i = go (is_access u) refl i (touch_of a us x)
  where
    go : (b : Bool) → is_access u ≡ b → IsIn x (map (access_by a) (cond b (u ∷ filter is_access us) (filter is_access us))) → (IsIn x (map (access_by a) (filter is_access us)) → (v : Touch) × IsIn v us × (is_access v ≡ true) × (x ≡ access_by a v))
        → (v : Touch) × IsIn v (u ∷ us) × (is_access v ≡ true) × (x ≡ access_by a v)
    go true e (inl h) more = (u, inl refl, e, h)
    go true e (inr j) more = let r = more j in (r.0, inr r.1, r.2, r.3)
    go false e j more = let r = more j in (r.0, inr r.1, r.2, r.3)

abbrev Any : List Turn → Cell → Type 0
Any ts c = Unit {0}

-- a scalar that is told is the one with the name of its cell
told_cell : (ts : List Turn) (c : Cell) (x : List ℕ) → name_in c ≡ x → Near ts c → IsCellOf x c
told_cell ts (Scalar y) x e near = e
told_cell ts (Private y path) x e near = e
told_cell ts (Element y js) x e near = absurd near
told_cell ts In x e near = absurd near
told_cell ts Out x e near = absurd near

-- what a touch is that no reference makes
loop_touches : (t : ProgramTree) (at : Place) (m : Manner) (c : Cell) (r : ℕ) → Fine Any at.turns m c r → Tells t at.turns m c → Stores t at.statement m c r → (is_write m || not (is_lines c)) ≡ true → r ≡ 0
    → IsByLoop t (record { cell = c; writes = is_write m; place = at; reference = r })
loop_touches t at reads c r f k s a z = elim f.0 [
  | inl l ↦ absurd (both_ways (not (is_lines c)) (ap not l) a)
  | inr less ↦ absurd (omega (arith, less, z))
]
loop_touches t at is_told c r f k s a z =
    let round : List Turn = k.front ++ k.last ∷ [] in
    in_body k.last (subst (IsIn k.last) (sym k.round) (in_left k.last round k.more (in_right k.last k.front (k.last ∷ []) (inl refl))))
    (record { head = k.head; body = k.body; is = k.stands }) (told_cell round c k.head.variable k.variable k.near) refl z
loop_touches t at writes c r f k s a z = elim s [
  | inl less ↦ absurd (omega (arith, less, z))
  | inr own ↦ when_left own.loop own.name own.which own.cell refl z
]

above_zero : (n : ℕ) → (n == 0) ≡ false → 0 < n
above_zero n h = grind (arith, nat_tests)

is_none : (n : ℕ) → (n == 0) ≡ true → n ≡ 0
is_none n h = grind (arith, nat_tests)

module _ (t : ProgramTree) (data_bytes : List ℕ) where
  abbrev acts : List Act
  acts = (run_of t data_bytes).acts

  act_good : (a : Act) → IsIn a acts → Good Any a
  act_good a i = all_good Any (λ scope x. Unit {0}) (λ scope x h. tt) (λ scope e k body q h x i. tt) (setting_of t) t.body 1 [] (store_at_start (lines data_bytes)) (λ x i. tt) a i

  -- an access that no reference makes
  pub loop_makes : (x : Access) → IsIn x (accesses acts) → x.reference ≡ 0 → IsByLoop t x
  loop_makes x i z =
      let a = act_of_access x acts i in
      let u = touch_of a.0 a.0.touches x a.2 in
      let by = loop_touches t a.0.place u.0.manner u.0.cell u.0.reference ((act_good a.0 a.1).0 u.0 u.1) (program_tells t (store_at_start (lines data_bytes)) a.0 a.1 u.0 u.1)
      (program_stores t (store_at_start (lines data_bytes)) a.0 a.1 u.0 u.1) u.2 (sym (ap (λ (y : Access). y.reference) u.3) ∙ z) in
      subst (IsByLoop t) (sym u.3) by

  -- what is so of two accesses that references make is so of any two, or a DO makes one of both
  pub so_or_by_loop : (So : Type 0) (a b : Access) → ComeInRun t data_bytes a b → (0 < a.reference → 0 < b.reference → So) → So ⊎ (IsByLoop t a ⊎ IsByLoop t b)
  so_or_by_loop So a b come so = go (a.reference == 0) (b.reference == 0) refl refl
    where
      go : (x y : Bool) → (a.reference == 0) ≡ x → (b.reference == 0) ≡ y → So ⊎ (IsByLoop t a ⊎ IsByLoop t b)
      go true y e f = inr (inl (loop_makes a (first_comes t data_bytes a b come) (is_none a.reference e)))
      go false true e f = inr (inr (loop_makes b (second_comes t data_bytes a b come) (is_none b.reference f)))
      go false false e f = inl (so (above_zero a.reference e) (above_zero b.reference f))
