-- The directions in which two accesses stand, and the loop that carries what is between them.
use Rattle.std.proofs.Common.{◌≡◌, ℕ, ◌-◌, ◌<◌, List, [], ◌∷◌, Bool, true, false, not, refl, sym, ap, ◌∙◌, subst, arith, ℤ, pos, negsuc, neg_ℤ, ◌+ℤ◌, ◌-ℤ◌, ◌*ℤ◌, ◌<ℤ◌, ◌≤ℤ◌, Option, Some, None, if◌then◌else◌, unwrap_or, int_eq}
use Rattle.std.specs.Prelude.{◌==◌}
use Rattle.std.specs.Bool.{MatchBool}
use Rattle.std.proofs.Math.IntN.{*ℤ_comm}
use Rattle.std.proofs.lemmas.Bool.{and_parts}
use Rattle.std.proofs.lemmas.Bool.Decides.{nat_tests}
use Rattle.std.proofs.lemmas.Int.{ints, by_lt_z}
use Rattle.ped_graph.specs.ped_views.specs.declared.directions.Direction.{Direction}
use Rattle.ped_graph.specs.ped_views.specs.declared.directions.Direction.TheVariants.{Before, Same, After}
use Rattle.ped_graph.specs.ped_views.specs.Excluded.{StandsByValue, turned, by_value}
use Rattle.ped_graph.specs.ped_views.proofs.Products.{linear, mul-sub, mul-le, neg-mul}
use Rattle.ped_flow.specs.ped_tree.specs.Tree.{Head, StmtTrees, Do, ProgramTree}
use Rattle.ped_flow.specs.ped_tree.specs.Nests.{Loop}
use Rattle.ped_flow.specs.ped_tree.specs.Numbering.{statement_with}
use Rattle.ped_flow.specs.ped_tree.specs.Constants.ConstantExpressions.{constant_value}
use Rattle.ped_graph.specs.ped_symbols.specs.RightUses.RightLoops.{is_small, is_step}
use Rattle.ped_flow.specs.ped_affine.specs.Ranges.{step_by}
use Rattle.ped_eval.specs.ped_store.specs.Acts.{Turn}
use Rattle.ped_eval.specs.Loops.{increment}
use Rattle.ped_eval.specs.Outcomes.{setting_of}
use Rattle.ped_laws.specs.Conflicts.Directions.{step_in, step_at, StandInDirections}
use Rattle.ped_laws.specs.Conflicts.Sequence.{AreSuccessive}
use Rattle.ped_laws.proofs.ConflictLaws.CoveringNests.{IsOf}

pub same_numbers : (m n : ℕ) → m ≡ n → (m == n) ≡ true
same_numbers m n e = grind (arith, nat_tests)

pub numbers_are : (m n : ℕ) → (m == n) ≡ true → m ≡ n
numbers_are m n e = grind (arith, nat_tests)

pub other_numbers : (m n : ℕ) → ¬ (m ≡ n) → (m == n) ≡ false
other_numbers m n h = grind (arith, nat_tests)

-- two values stand in some direction
direction_between : (step i j : ℤ) → (d : Direction) × StandsByValue (by_value step d) i j
direction_between (pos n) i j = by_lt_z i j (λ h. (Before, h)) (λ h. by_lt_z j i (λ k. (After, k)) (λ k. (Same, omega (arith, linear, h, k))))
direction_between (negsuc n) i j = by_lt_z i j (λ h. (After, h)) (λ h. by_lt_z j i (λ k. (Before, k)) (λ k. (Same, omega (arith, linear, h, k))))

-- two accesses stand in some directions
pub have_directions : (t : ProgramTree) (is js : List Turn) → (vector : List Direction) × StandInDirections t is js vector
have_directions t [] js = ([], refl)
have_directions t (i ∷ is) [] = ([], refl)
have_directions t (i ∷ is) (j ∷ js) = go (i.statement == j.statement) (direction_between (step_at t i.statement) i.value j.value) (have_directions t is js)
  where
    go : (b : Bool) → (d : Direction) × StandsByValue (by_value (step_at t i.statement) d) i.value j.value → (vector : List Direction) × StandInDirections t is js vector
        → (vector : List Direction) × MatchBool b ((d : Direction) × (rest : List Direction) × (vector ≡ d ∷ rest) × StandsByValue (by_value (step_at t i.statement) d) i.value j.value × StandInDirections t is js rest) (vector ≡ [])
    go true d more = (d.0 ∷ more.0, (d.0, more.0, refl, d.1, more.1))
    go false d more = ([], refl)

-- equal values stand in `=`
pub same_by_value : (step : ℤ) (d : Direction) (i j : ℤ) → i ≡ j → StandsByValue (by_value step d) i j → d ≡ Same
same_by_value (pos n) Before i j e h = absurd (omega (arith, linear, e, h))
same_by_value (pos n) Same i j e h = refl
same_by_value (pos n) After i j e h = absurd (omega (arith, linear, e, h))
same_by_value (negsuc n) Before i j e h = absurd (omega (arith, linear, e, h))
same_by_value (negsuc n) Same i j e h = refl
same_by_value (negsuc n) After i j e h = absurd (omega (arith, linear, e, h))

mul_one : (a : ℤ) → a *ℤ pos 1 ≡ a
mul_one a = omega (arith, ints)

one_apart : (m n : ℕ) → m < n → pos 1 ≤ℤ (pos n -ℤ pos m)
one_apart m n h = omega (arith, ints)

upwards : (initial step : ℤ) (m n : ℕ) → m < n → pos 0 <ℤ step → (initial +ℤ pos m *ℤ step) <ℤ (initial +ℤ pos n *ℤ step)
upwards initial step m n h k =
    let less = mul-le step (pos 1) (pos n -ℤ pos m) (omega (arith, linear)) (one_apart m n h) in
    let one = mul_one step in
    let parts = mul-sub step (pos n) (pos m) in
    let first = *ℤ_comm step (pos m) in
    let second = *ℤ_comm step (pos n) in
    omega (arith, linear)

downwards : (initial step : ℤ) (m n : ℕ) → m < n → step <ℤ pos 0 → (initial +ℤ pos n *ℤ step) <ℤ (initial +ℤ pos m *ℤ step)
downwards initial step m n h k =
    let less = mul-le (neg_ℤ step) (pos 1) (pos n -ℤ pos m) (omega (arith, linear)) (one_apart m n h) in
    let one = mul_one (neg_ℤ step) in
    let parts = mul-sub (neg_ℤ step) (pos n) (pos m) in
    let e = neg-mul step (pos n) in
    let f = neg-mul step (pos m) in
    let first = *ℤ_comm step (pos m) in
    let second = *ℤ_comm step (pos n) in
    omega (arith, linear)

pos_above : (n : ℕ) → ¬ (pos n ≡ pos 0) → pos 0 <ℤ pos n
pos_above n h = by_lt_z (pos 0) (pos n) (λ k. k) (λ k. absurd (h (omega (arith, ints))))

neg_below : (n : ℕ) → negsuc n <ℤ pos 0
neg_below n = omega (arith, ints)

-- the value of an earlier iteration stands in `<`, whatever the sign of the step
before_by_value : (initial step : ℤ) (m n : ℕ) (d : Direction) → m < n → ¬ (step ≡ pos 0) → StandsByValue (by_value step d) (initial +ℤ pos m *ℤ step) (initial +ℤ pos n *ℤ step) → d ≡ Before
before_by_value initial (pos k) m n d h some stands = go d stands (upwards initial (pos k) m n h (pos_above k some))
  where
    go : (d : Direction) → StandsByValue d (initial +ℤ pos m *ℤ pos k) (initial +ℤ pos n *ℤ pos k) → (initial +ℤ pos m *ℤ pos k) <ℤ (initial +ℤ pos n *ℤ pos k) → d ≡ Before
    go Before s l = refl
    go Same s l = absurd (omega (arith, linear, s, l))
    go After s l = absurd (omega (arith, linear, s, l))
before_by_value initial (negsuc k) m n d h some stands = go d stands (downwards initial (negsuc k) m n h (neg_below k))
  where
    go : (d : Direction) → StandsByValue (turned d) (initial +ℤ pos m *ℤ negsuc k) (initial +ℤ pos n *ℤ negsuc k) → (initial +ℤ pos n *ℤ negsuc k) <ℤ (initial +ℤ pos m *ℤ negsuc k) → d ≡ Before
    go Before s l = refl
    go Same s l = absurd (omega (arith, linear, s, l))
    go After s l = absurd (omega (arith, linear, s, l))

-- an increment that has a right value counts with it, and isn't 0
step_same : (c : Option ℤ) → is_step c ≡ true → step_by c ≡ unwrap_or c (pos 1)
step_same None h = refl
step_same (Some n) h = ap (λ (b : Bool). if b then n else pos 1) h

step_some : (c : Option ℤ) → is_step c ≡ true → ¬ (unwrap_or c (pos 1) ≡ pos 0)
step_some None h e = absurd cc
step_some (Some n) h e = is n e (and_parts (not (int_eq n (pos 0))) (is_small n) h).0
  where
    zero_fails : not (int_eq (pos 0) (pos 0)) ≡ true → ⊥
    zero_fails t = absurd cc

    is : (n : ℤ) → n ≡ pos 0 → not (int_eq n (pos 0)) ≡ true → ⊥
    is n q h = zero_fails (subst (λ (x : ℤ). not (int_eq x (pos 0)) ≡ true) q h)

module _ (t : ProgramTree) (l : Loop) (i j : Turn) (of : IsOf t l i) (later : AreSuccessive t i j) where
  stands_here : statement_with i.statement t ≡ Some (Do l.head of.body)
  stands_here = ap (λ (n : ℕ). statement_with n t) of.statement ∙ of.stands

  steps : step_at t i.statement ≡ increment (setting_of t).constants later.head
  steps =
      let same : Some (Do later.head later.body) ≡ Some (Do l.head of.body) = sym later.stands ∙ stands_here in
      let heads : later.head ≡ l.head = head_same later.head l.head later.body of.body same in
      ap (step_in (setting_of t).constants) stands_here
      ∙ step_same (constant_value (setting_of t).constants l.head.step) of.step
      ∙ ap (λ (h : Head). increment (setting_of t).constants h) (sym heads)
    where
      head_same : (h k : Head) (b c : StmtTrees) → Some (Do h b) ≡ Some (Do k c) → h ≡ k
      head_same h k b c e = cc

  some_step : ¬ (step_at t i.statement ≡ pos 0)
  some_step e = step_some (constant_value (setting_of t).constants l.head.step) of.step (sym (ap (step_in (setting_of t).constants) stands_here ∙ step_same (constant_value (setting_of t).constants l.head.step) of.step) ∙ e)

  -- of two iterations of one execution of a DO the first stands in `<`
  pub earlier_before : (d : Direction) → StandsByValue (by_value (step_at t i.statement) d) i.value j.value → d ≡ Before
  earlier_before d h =
      before_by_value later.initial (step_at t i.statement) (i.number - 1) (j.number - 1) d (omega (arith, of.from, later.earlier)) some_step
      (subst (λ (z : ℤ). StandsByValue (by_value (step_at t i.statement) d) (later.initial +ℤ pos (i.number - 1) *ℤ step_at t i.statement) z) (later.at_second ∙ ap (λ (s : ℤ). later.initial +ℤ pos (j.number - 1) *ℤ s) (sym steps))
      (subst (λ (z : ℤ). StandsByValue (by_value (step_at t i.statement) d) z j.value) (later.at_first ∙ ap (λ (s : ℤ). later.initial +ℤ pos (i.number - 1) *ℤ s) (sym steps)) h))
