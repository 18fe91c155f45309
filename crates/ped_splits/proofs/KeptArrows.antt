-- A dependence that has to be kept leads from a DO to itself or to one behind it, and a PRIVATE name stays in one DO (Allen and Kennedy, sections 2.4, 6.2.2).
use Rattle.std.proofs.Common.{◌≡◌, ◌⊎◌, ℕ, zero, suc, ◌+◌, ◌<◌, ◌≤◌, List, [], ◌∷◌, ◌++◌, length, map, slice_index_or, Bool, true, false, not, ◌&&◌, ◌||◌, inl, inr, refl, sym, ap, subst, ◌∙◌, arith}
use Rattle.std.specs.List.{list_any, range_with_len}
use Rattle.std.proofs.lemmas.Bool.{or_right}
use Rattle.ped_base.specs.Lists.{is_same_text}
use Rattle.ped_tree.specs.Tree.{Head, StmtTrees, ProgramTree}
use Rattle.ped_rules.specs.Carried.{level_at}
use Rattle.ped_rules.specs.ped_laws.specs.Acts.Orders.{IsIn}
use Rattle.ped_edges.specs.Edges.{Edge, is_rejected}
use Rattle.ped_splits.specs.Units.{units, stands_in, is_within, is_to_keep, refers, is_arrow, arrows}
use Rattle.ped_splits.specs.PiBlocks.{reaches, ArePiBlocks}
use Rattle.ped_splits.proofs.PiBlockLaws.{In, in_front, in_back, LeadForward, all_forward, through}
use Rattle.ped_splits.proofs.Existence.Closures.{test_by}
use Rattle.ped_splits.proofs.Partitions.{flat}

any_in : {X : Type 0} (p : X → Bool) (xs : List X) (x : X) → IsIn x xs → p x ≡ true → list_any p xs ≡ true
any_in p [] x i h = elim i [ ]
any_in p (y ∷ ys) x (inl e) h = ap (λ (b : Bool). b || list_any p ys) (ap p (sym e) ∙ h)
any_in p (y ∷ ys) x (inr i) h = ap (λ (b : Bool). p y || b) (any_in p ys x i h) ∙ or_right (p y) true refl

one_or : (a b : Bool) → b ≡ true → a || b ≡ true
one_or true b h = refl
one_or false b h = h

pub in_flat : (i x : ℕ) (bs : List (List ℕ)) → In i (slice_index_or bs x []) → In i (flat bs)
in_flat i x [] h = h
in_flat i zero (b ∷ bs) h = in_front i b (flat bs) h
in_flat i (suc x) (b ∷ bs) h = in_back i b (flat bs) (in_flat i x bs h)

-- no unit of a later block leads to one of an earlier block
never_back : (reach : List (List Bool)) (passes : (i j k : ℕ) → reaches reach i j ≡ true → reaches reach j k ≡ true → reaches reach i k ≡ true) (bs : List (List ℕ)) → LeadForward reach passes bs
    → (i j x y : ℕ) → In i (slice_index_or bs x []) → In j (slice_index_or bs y []) → reaches reach i j ≡ true → x ≤ y
never_back reach passes [] forward i j x y here there leads = absurd here
never_back reach passes (b ∷ bs) forward i j zero y here there leads = omega arith
never_back reach passes (b ∷ bs) forward i j (suc x) zero here there leads = let none : true ≡ false = sym leads ∙ forward.0 i j (in_flat i x bs here) there in absurd cc
never_back reach passes (b ∷ bs) forward i j (suc x) (suc y) here there leads = let rest = never_back reach passes bs forward.1 i j x y here there leads in omega (arith, rest)

module _ (t : ProgramTree) (s : ℕ) (h : Head) (body : StmtTrees) (found : List (List ℕ)) (are : ArePiBlocks t s h body found) where
  passing : (i j k : ℕ) → reaches are.reach i j ≡ true → reaches are.reach j k ≡ true → reaches are.reach i k ≡ true
  passing = through (arrows t s h body are.edges) are.reach are.closed

  lead_forward : LeadForward are.reach passing found
  lead_forward = subst (λ (bs : List (List ℕ)). LeadForward are.reach passing bs) (sym are.order) (all_forward are.reach passing (length are.reach) (range_with_len 0 (length are.reach)))

  arrow_reaches : (i j : ℕ) → i < length (units body) → j < length (units body) → is_arrow t s h body are.edges i j ≡ true → reaches are.reach i j ≡ true
  arrow_reaches i j inside within arrow = (are.closed.reaches i j).1 ([], test_by (length (units body)) (is_arrow t s h body are.edges) i j inside within ∙ arrow)

  -- an arrow leads to no DO before
  pub arrow_forward : (i j x y : ℕ) → i < length (units body) → j < length (units body) → is_arrow t s h body are.edges i j ≡ true → In i (slice_index_or found x []) → In j (slice_index_or found y []) → x ≤ y
  arrow_forward i j x y inside within arrow here there = never_back are.reach passing found lead_forward i j x y here there (arrow_reaches i j inside within arrow)

  -- nor does a dependence that has to be kept
  pub kept_forward : (e : Edge) → IsIn e are.edges → is_within (level_at t s) e.level ≡ true → is_rejected e.mark ≡ false → (i j x y : ℕ) → i < length (units body) → j < length (units body) → stands_in s body i e.source.0 ≡ true → stands_in s body j e.sink.0 ≡ true
      → In i (slice_index_or found x []) → In j (slice_index_or found y []) → x ≤ y
  kept_forward e there deep counts i j x y inside within source sink here behind =
      arrow_forward i j x y inside within
      (ap (λ (b : Bool). b || list_any (λ v. refers t s body v i && refers t s body v j) h.private)
      (any_in (λ (z : Edge). is_to_keep t s z && (stands_in s body i z.source.0 && stands_in s body j z.sink.0)) are.edges e there (λ k. (deep k && not (counts k)) && (source k && sink k)))) here behind

  -- units that use one PRIVATE name stand in one DO
  pub linked_together : (name : List ℕ) → IsIn name h.private → (i j x y : ℕ) → i < length (units body) → j < length (units body) → refers t s body name i ≡ true → refers t s body name j ≡ true
      → In i (slice_index_or found x []) → In j (slice_index_or found y []) → x ≡ y
  linked_together name there i j x y inside within one other here behind =
      let on = arrow_forward i j x y inside within (linked i j one other) here behind in
      let back = arrow_forward j i y x within inside (linked j i other one) behind here in
      omega (arith, on, back)
    where
      linked : (a b : ℕ) → refers t s body name a ≡ true → refers t s body name b ≡ true → is_arrow t s h body are.edges a b ≡ true
      linked a b p q =
          one_or (list_any (λ e. is_to_keep t s e && (stands_in s body a e.source.0 && stands_in s body b e.sink.0)) are.edges) (list_any (λ v. refers t s body v a && refers t s body v b) h.private)
          (any_in (λ (v : List ℕ). refers t s body v a && refers t s body v b) h.private name there (λ k. p k && q k))
