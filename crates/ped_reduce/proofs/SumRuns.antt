-- Statements in which sums are kept apart go on where the statements do.
use Rattle.std.proofs.Common.{◌≡◌, ℕ, suc, ◌+◌, ℤ, List, [], ◌∷◌, ◌++◌, Bool, true, false, ◌||◌, ◌⊎◌, inl, inr, Option, Some, None, refl, sym, ap, subst, ◌∙◌, if◌then◌else◌}
use Rattle.std.specs.Prelude.{not, ◌&&◌, ◌==◌}
use Rattle.std.proofs.lemmas.Bool.{both_ways, or_parts}
use Rattle.std.proofs.lemmas.List.Folds.{list_any-append}
use Rattle.ped_base.specs.Dimensions.{Dimensions}
use Rattle.ped_base.specs.Lists.{is_same_text, is_among}
use Rattle.ped_base.proofs.NameEquality.{same_is, same_itself}
use Rattle.ped_tree.specs.Tree.{ExprTree, Int, Var, Element, Neg, Add, Sub, Mul, Div, Pow, Call, CondTree, ItemTree, Head, StmtTree, StmtTrees, Assign, If, Do, Print, Read, Stop, Comment, no_stmts, more_stmts}
use Rattle.ped_tree.specs.NamesIn.{expr_names, cond_names, all_loop_variables}
use Rattle.ped_tree.specs.Numbering.{statement_count, statements_count}
use Rattle.ped_rules.specs.ped_symbolic.specs.Substitution.{has_scalar, is_scalar}
use Rattle.ped_rules.specs.ped_steps.specs.Replacing.{alone}
use Rattle.ped_rules.specs.ped_store.specs.Cells.{Cell, Private}
use Rattle.ped_rules.specs.ped_store.specs.Stores.{Store}
use Rattle.ped_rules.specs.ped_store.specs.Acts.{Place, did, Act, iterations_of}
use Rattle.ped_rules.specs.ped_laws.specs.Acts.Orders.{IsIn}
use Rattle.ped_rules.specs.ped_eval.specs.Scopes.{Setting, Frame, Scope, turns_of, cell_of, index_value, Names, names_in, place_of}
use Rattle.ped_rules.specs.ped_eval.specs.Evaluation.{Seen, numbered, number_behind}
use Rattle.ped_rules.specs.ped_eval.specs.Values.{truth}
use Rattle.ped_rules.specs.ped_eval.specs.Loops.{Limits, limits, increment, iteration_count, sorted_once, inner_variables, Entered, entered_with, frame, undefined_by, undefined_all, exit_touches, exit_when_none, entry_touches}
use Rattle.ped_rules.specs.ped_eval.specs.Runs.{going, Run, nothing_done, then_run, does, run_assignment, run_print, run_read, run_if, run_from_entry, run_do, run, run_all}
use Rattle.ped_rules.specs.ped_laws.proofs.RunLaws.Sight.{truth_told, limits_told}
use Rattle.ped_rules.specs.ped_laws.proofs.RunLaws.StatementsTold.{run_told}
use Rattle.ped_rules.specs.ped_laws.proofs.FlowRunLaws.Names.{inner_among}
use Rattle.ped_rules.specs.ped_loop_runs.proofs.PastingLaws.PastedLoops.{run_followed}
use Rattle.ped_reduce.specs.Sums.{Sum, plus, minus, sum_of, sum_to}
use Rattle.ped_reduce.specs.Lowering.{Partials, added_apart, apart_or, sum_apart, summed, all_summed}
use Rattle.ped_reduce.proofs.SumStores.{is_total, is_either, is_apart, Within, AreSmall, HaveArrays, within_touches}
use Rattle.ped_reduce.proofs.SumSight as sight
use Rattle.ped_reduce.proofs.SumSight.{AllTouch, all_append, numbered_touch}
use Rattle.ped_reduce.proofs.SumGoing.{GoesAlong, Along, nothing_along, then_along, does_along, on_along, chosen_along, entry_along}
use Rattle.ped_reduce.proofs.SumSteps.{operand, StandsAt, CameOfSum, scalar_first, scalar_last, taken_away}
use Rattle.ped_reduce.proofs.SumParts.{ComesFrom, holds_same, behind_sum, three_go, three_come, within_sum}
use Rattle.ped_reduce.proofs.SumBodies.{Lacks, OneOr, IsSumOr, IsFreeOf, IsClearHead, IsClear, AreClear, CountsAlike, CountAlike, all_variables_kept, then_nothing, same_touches, told_along, scalars, elements, assignment_clear, print_clear, read_clear}

-- what a sum looks like
abbrev IsShape : List ℕ → Sum → ExprTree → Type 0
IsShape x (plus e) right = (right ≡ Add (Var x) e) ⊎ (right ≡ Add e (Var x))
IsShape x (minus e) right = right ≡ Sub (Var x) e

scalar_is : (x : List ℕ) (e : ExprTree) → is_scalar x e ≡ true → e ≡ Var x
scalar_is x (Var y) h = ap Var (sym (same_is x y h))
scalar_is x (Int n) h = absurd cc
scalar_is x (Element y es) h = absurd cc
scalar_is x (Neg a) h = absurd cc
scalar_is x (Add a b) h = absurd cc
scalar_is x (Sub a b) h = absurd cc
scalar_is x (Mul a b) h = absurd cc
scalar_is x (Div a b) h = absurd cc
scalar_is x (Pow a b) h = absurd cc
scalar_is x (Call f es) h = absurd cc

some_sum : (a b : Sum) → Some a ≡ Some b → a ≡ b
some_sum a b h = cc

no_some : {X : Type 0} (sum : Sum) → None ≡ Some sum → X
no_some sum h = absurd cc

add_shape : (x : List ℕ) (a b : ExprTree) (sum : Sum) (c d g h : Bool) → is_scalar x a ≡ c → is_scalar x b ≡ d → (if c && not g then Some (plus b) else (if d && not h then Some (plus a) else None)) ≡ Some sum → IsShape x sum (Add a b)
add_shape x a b sum true d false h e f q = subst (λ (z : Sum). IsShape x z (Add a b)) (some_sum (plus b) sum q) (inl (ap (λ (z : ExprTree). Add z b) (scalar_is x a e)))
add_shape x a b sum true true true false e f q = subst (λ (z : Sum). IsShape x z (Add a b)) (some_sum (plus a) sum q) (inr (ap (Add a) (scalar_is x b f)))
add_shape x a b sum true true true true e f q = no_some sum q
add_shape x a b sum true false true h e f q = no_some sum q
add_shape x a b sum false true g false e f q = subst (λ (z : Sum). IsShape x z (Add a b)) (some_sum (plus a) sum q) (inr (ap (Add a) (scalar_is x b f)))
add_shape x a b sum false true g true e f q = no_some sum q
add_shape x a b sum false false g h e f q = no_some sum q

sub_shape : (x : List ℕ) (a b : ExprTree) (sum : Sum) (c g : Bool) → is_scalar x a ≡ c → (if c && not g then Some (minus b) else None) ≡ Some sum → IsShape x sum (Sub a b)
sub_shape x a b sum true false e q = subst (λ (z : Sum). IsShape x z (Sub a b)) (some_sum (minus b) sum q) (ap (λ (z : ExprTree). Sub z b) (scalar_is x a e))
sub_shape x a b sum true true e q = no_some sum q
sub_shape x a b sum false g e q = no_some sum q

right_shape : (x : List ℕ) (right : ExprTree) (sum : Sum) → sum_of x right ≡ Some sum → IsShape x sum right
right_shape x (Add a b) sum q = add_shape x a b sum (is_scalar x a) (is_scalar x b) (has_scalar x b) (has_scalar x a) refl refl q
right_shape x (Sub a b) sum q = sub_shape x a b sum (is_scalar x a) (has_scalar x b) refl q
right_shape x (Int n) sum q = no_some sum q
right_shape x (Var y) sum q = no_some sum q
right_shape x (Element y es) sum q = no_some sum q
right_shape x (Neg a) sum q = no_some sum q
right_shape x (Mul a b) sum q = no_some sum q
right_shape x (Div a b) sum q = no_some sum q
right_shape x (Pow a b) sum q = no_some sum q
right_shape x (Call f es) sum q = no_some sum q

-- a sum has the scalar on its left, and one of three shapes on its right
sum_shape : (x : List ℕ) (left right : ExprTree) (sum : Sum) → sum_to x (Assign left right) ≡ Some sum → (left ≡ Var x) × IsShape x sum right
sum_shape x left right sum q = go (is_scalar x left) refl q
  where
    go : (b : Bool) → is_scalar x left ≡ b → (if b then sum_of x right else None) ≡ Some sum → (left ≡ Var x) × IsShape x sum right
    go true e r = (scalar_is x left e, right_shape x right sum r)
    go false e r = no_some sum r

among_parts : (x : List ℕ) (xs ys : List (List ℕ)) → is_among x (xs ++ ys) ≡ false → (is_among x xs ≡ false) × (is_among x ys ≡ false)
among_parts x xs ys h = or_parts (is_among x xs) (is_among x ys) (sym (list_any-append (is_same_text x) xs ys) ∙ h)

among_both : (x : List ℕ) (xs ys : List (List ℕ)) → is_among x xs ≡ false → is_among x ys ≡ false → is_among x (xs ++ ys) ≡ false
among_both x xs ys h k = list_any-append (is_same_text x) xs ys ∙ (λ i. h i || k i)

-- no iteration of a DO that is free of a name has a copy of it
module _ (v : List ℕ) (ps : List Partials) (h : Head) (body : StmtTrees) (x : List ℕ) (free : IsFreeOf ps v h body x) where
  free_parts : (is_same_text x h.variable ≡ false) × (is_among x (h.private ++ all_loop_variables body) ≡ false)
  free_parts = or_parts (is_same_text x h.variable) (is_among x (h.private ++ all_loop_variables body)) free

  free_lists : (is_among x h.private ≡ false) × (is_among x (all_loop_variables body) ≡ false)
  free_lists = among_parts x h.private (all_loop_variables body) free_parts.1

  inner_free : (b : Bool) → is_among x (inner_variables b body) ≡ false
  inner_free true = inner_among x body ∙ free_lists.1
  inner_free false = refl

  copied_free : is_among x (if h.parallel then h.variable ∷ (h.private ++ inner_variables h.parallel body) else h.private) ≡ false
  copied_free = go h.parallel
    where
      go : (b : Bool) → is_among x (if b then h.variable ∷ (h.private ++ inner_variables b body) else h.private) ≡ false
      go true = λ i. free_parts.0 i || among_both x h.private (inner_variables true body) free_lists.0 (inner_free true) i
      go false = free_lists.0

-- none of these names is one of the scalars
abbrev pub NoneTotal : List Partials → List (List ℕ) → Type 0
NoneTotal ps [] = Unit {0}
NoneTotal ps (x ∷ xs) = (is_total ps x ≡ false) × NoneTotal ps xs

turned : (x y : List ℕ) → is_same_text x y ≡ false → is_same_text y x ≡ false
turned x y h = by (is_same_text y x) refl
  where
    by : (b : Bool) → is_same_text y x ≡ b → is_same_text y x ≡ false
    by true e = absurd (both_ways (is_same_text x y) h (ap (is_same_text x) (same_is y x e) ∙ same_itself x))
    by false e = e

pub not_total : (ps : List Partials) (x : List ℕ) → ((p : Partials) → IsIn p ps → is_same_text p.scalar x ≡ false) → is_total ps x ≡ false
not_total [] x h = refl
not_total (p ∷ ps) x h = λ i. turned p.scalar x (h p (inl refl)) i || not_total ps x (λ a j. h a (inr j)) i

pub none_total : (ps : List Partials) (xs : List (List ℕ)) → ((p : Partials) → IsIn p ps → is_among p.scalar xs ≡ false) → NoneTotal ps xs
none_total ps [] h = tt
none_total ps (x ∷ xs) h =
    (not_total ps x (λ p i. (or_parts (is_same_text p.scalar x) (is_among p.scalar xs) (h p i)).0), none_total ps xs (λ p i. (or_parts (is_same_text p.scalar x) (is_among p.scalar xs) (h p i)).1))

module _ (bounds : List ℕ → Dimensions) (constants : List (List ℕ × ℤ)) (f f' : ℕ → ℕ) (ps : List Partials) (arrays : HaveArrays ps) (v : List ℕ) (k : ℤ) (told : Cell) (o w : Store) (small : AreSmall ps o) where
  -- the old program, and the new one
  abbrev p : Setting
  p = record { bounds = bounds; constants = constants; number = f }

  abbrev q : Setting
  q = record { bounds = bounds; constants = constants; number = f' }

  abbrev W : Store → Store → Type 0
  W s u = Within ps k o w s u

  abbrev C : Act → Act → Type 0
  C a b = ComesFrom ps k told a b

  abbrev P : Cell → Type 0
  P c = is_apart ps c ≡ false

  abbrev Stands : Scope → Type 0
  Stands scope = StandsAt ps (names_in p scope) v k told

  -- a statement by itself
  alone_along : (r z : Store → Run) → Along W C r z → Along W C r (λ u. then_run (z u) nothing_done)
  alone_along r z h = subst (λ (y : Store → Run). Along W C r y) (λ i u. sym (then_nothing (z u)) i) h

  module _ (scope : Scope) (stands : Stands scope) (n m : ℕ) where
    abbrev g : Names
    g = names_in p scope

    -- a sum
    module _ (a : Partials) (i : IsIn a ps) (left right : ExprTree) (sum : Sum) (is : sum_to a.scalar (Assign left right) ≡ Some sum) (lacks : Lacks ps (expr_names (operand sum))) where
      abbrev Came : Store → Store → Sum → ExprTree → ExprTree → Type 0
      Came s t z l r = (run_assignment g (place_of p n scope) l r s).ending ≡ going t → CameOfSum ps g v k told stands a z (place_of p n scope) (run_assignment g (place_of p n scope) l r s) s t

      came_by : (s t : Store) → left ≡ Var a.scalar → (z : Sum) → IsShape a.scalar z right → Came s t z left right
      came_by s t l (plus e) (inl r) = subst (λ (y : ExprTree). Came s t (plus e) y right) (sym l) (subst (Came s t (plus e) (Var a.scalar)) (sym r) (scalar_first ps g v k told stands a i (place_of p n scope) s t e))
      came_by s t l (plus e) (inr r) = subst (λ (y : ExprTree). Came s t (plus e) y right) (sym l) (subst (Came s t (plus e) (Var a.scalar)) (sym r) (scalar_last ps g v k told stands a i (place_of p n scope) s t e))
      came_by s t l (minus e) r = subst (λ (y : ExprTree). Came s t (minus e) y right) (sym l) (subst (Came s t (minus e) (Var a.scalar)) (sym r) (taken_away ps g v k told stands a i (place_of p n scope) s t e))

      came : (s t : Store) → Came s t sum left right
      came s t = let shape = sum_shape a.scalar left right sum is in came_by s t shape.0 sum shape.1

      sum_goes : Along W C (run p (Assign left right) n scope) (run_all q (added_apart v a sum) m scope)
      sum_goes s u within t e =
          let c = came s t e in
          let old = place_of p n scope in
          let r = run p (Assign left right) n scope s in
          let first = place_of q m scope in
          let second = place_of q (m + 1) scope in
          let third = place_of q (m + 1 + 1) scope in (
            behind_sum ps g v k told stands arrays a i sum lacks old r o w s t u small within c,
            ap (λ (x : Run). x.ending) (three_go ps g v k told stands arrays a i sum lacks old r o w s t u small within c first second third),
            subst (λ (x : Store). W x (behind_sum ps g v k told stands arrays a i sum lacks old r o w s t u small within c)) (sym c.behind) (within_sum ps g v k told stands arrays a i sum lacks old r o w s t u small within c),
            (λ b j. three_come ps g v k told stands arrays a i sum lacks old r o w s t u small within c first second third b refl refl refl j),
          )

    same_place : f n ≡ f' m → place_of p n scope ≡ place_of q m scope
    same_place e = λ i. record { statement = e i; turns = turns_of scope }

    assignment_along : f n ≡ f' m → (left right : ExprTree) (rest : List Partials) → ((a : Partials) → IsIn a rest → IsIn a ps) → IsSumOr ps rest (Assign left right) → Along W C (run p (Assign left right) n scope) (run_all q (sum_apart v rest (Assign left right)) m scope)
    assignment_along e left right [] all lacks =
        let parts = sight.lacks_parts P (is_either ps) (expr_names left) (expr_names right) lacks in
        alone_along (run p (Assign left right) n scope) (run q (Assign left right) m scope)
        (subst (λ (y : Place). Along W C (run p (Assign left right) n scope) (run_assignment g y left right)) (same_place e)
        (told_along ps k told o w (run p (Assign left right) n scope) (run_told p (Assign left right) n scope) (λ s. assignment_clear ps g stands.others (place_of p n scope) left right s parts.0 parts.1)))
    assignment_along e left right (a ∷ rest) all h = go (sum_to a.scalar (Assign left right)) refl h (assignment_along e left right rest (λ b j. all b (inr j)))
      where
        go : (x : Option Sum) → sum_to a.scalar (Assign left right) ≡ x → OneOr ps x (IsSumOr ps rest (Assign left right)) → (IsSumOr ps rest (Assign left right) → Along W C (run p (Assign left right) n scope) (run_all q (sum_apart v rest (Assign left right)) m scope))
            → Along W C (run p (Assign left right) n scope) (run_all q (apart_or v a x (sum_apart v rest (Assign left right))) m scope)
        go None y lacks more = more lacks
        go (Some sum) y lacks more = sum_goes a (all a (inl refl)) left right sum y lacks

    print_along : f n ≡ f' m → (items : List ItemTree) → IsClear ps v (Print items) → Along W C (run p (Print items) n scope) (run_all q (alone (Print items)) m scope)
    print_along e items lacks =
        alone_along (run p (Print items) n scope) (run q (Print items) m scope)
        (subst (λ (y : Place). Along W C (run p (Print items) n scope) (run_print g y items)) (same_place e)
        (told_along ps k told o w (run p (Print items) n scope) (run_told p (Print items) n scope) (λ s. print_clear ps g stands.others (place_of p n scope) items s lacks)))

    read_along : f n ≡ f' m → (items : List ExprTree) → IsClear ps v (Read items) → Along W C (run p (Read items) n scope) (run_all q (alone (Read items)) m scope)
    read_along e items lacks =
        alone_along (run p (Read items) n scope) (run q (Read items) m scope)
        (subst (λ (y : Place). Along W C (run p (Read items) n scope) (run_read g y items)) (same_place e)
        (told_along ps k told o w (run p (Read items) n scope) (run_told p (Read items) n scope) (λ s. read_clear ps g stands.others (place_of p n scope) items s lacks)))

    if_along : (c : CondTree) (r z h j : Store → Run) → Lacks ps (cond_names c) → Along W C r z → Along W C h j → Along W C (run_if g (place_of p n scope) c r h) (run_if g (place_of q m scope) c z j)
    if_along c r z h j lacks first second s u within =
        let seen_others = sight.truth_seen P (is_either ps) g (scalars ps g stands.others (place_of p n scope)) (elements ps g stands.others (place_of p n scope)) c s lacks in
        let same : truth g c u ≡ truth g c s = (truth_told g c).comes s u (holds_same P s u within.same (truth g c s).seen seen_others ((truth_told g c).holds s)) in
        let touches = numbered 1 (truth g c s).seen in
        on_along W C (place_of p n scope) (place_of q m scope) (truth g c s) (truth g c u)
        (λ seen holds. does did (place_of p n scope) (numbered 1 seen) (if holds then r else h) s) (λ seen holds. does did (place_of q m scope) (numbered 1 seen) (if holds then z else j) u) (sym same)
        (λ holds come. does_along W C did (place_of p n scope) (place_of q m scope) touches touches (if holds then r else h) (if holds then z else j) s u
        (within_touches ps k o w touches s u (numbered_touch P 1 (truth g c s).seen seen_others) within) (same_touches ps k told o w did (place_of p n scope) (place_of q m scope) touches refl)
        (chosen_along W C holds r z h j first second))

    -- a DO in it
    module _ (h : Head) (body : StmtTrees) (clear : IsClearHead ps v h body) where
      -- in an iteration names stand for what they did
      deeper : (seen : List Seen) (l : Limits) (j : ℕ) → Stands (frame (entered_with p n h body seen l) j ∷ scope)
      deeper seen l j =
          let e = frame (entered_with p n h body seen l) j in
          record {
            plain = stands.plain;
            index = ap (λ (b : Bool). if b then Some e.turn.value else index_value scope v) (free_parts v ps h body v clear.variable).0 ∙ stands.index;
            cell = ap (λ (b : Bool). if b then Private v (iterations_of (turns_of (e ∷ scope))) else cell_of scope v) (copied_free v ps h body v clear.variable) ∙ stands.cell;
            variable = stands.variable;
            unbound = λ a i. ap (λ (b : Bool). if b then Some e.turn.value else index_value scope a.scalar) (free_parts v ps h body a.scalar (clear.scalars a i)).0 ∙ stands.unbound a i;
            own = λ a i. ap (λ (b : Bool). if b then Private a.scalar (iterations_of (turns_of (e ∷ scope))) else cell_of scope a.scalar) (copied_free v ps h body a.scalar (clear.scalars a i)) ∙ stands.own a i;
            others = λ x total. inner x total (is_among x e.private);
            inside = stands.inside;
          }
        where
          inner : (x : List ℕ) → is_total ps x ≡ false → (b : Bool) → is_apart ps (if b then Private x (iterations_of (turns_of (frame (entered_with p n h body seen l) j ∷ scope))) else cell_of scope x) ≡ false
          inner x total true = refl
          inner x total false = stands.others x total

      -- what the DO stores of itself is of other cells
      undefined_kept : (b : ℕ) (xs : List (List ℕ)) → NoneTotal ps xs → AllTouch P (undefined_by scope b xs)
      undefined_kept b [] none = tt
      undefined_kept b (x ∷ xs) none = (stands.others x none.0, undefined_kept (suc b) xs none.1)

      all_undefined_kept : (xs : List (List ℕ)) → NoneTotal ps xs → AllTouch P (undefined_all scope xs)
      all_undefined_kept [] none = tt
      all_undefined_kept (x ∷ xs) none = (stands.others x none.0, all_undefined_kept xs none.1)

      exits_kept : (seen : List Seen) (l : Limits) → AllTouch P (exit_touches (entered_with p n h body seen l) scope)
      exits_kept seen l =
          let e = entered_with p n h body seen l in (
            stands.others h.variable (not_total ps h.variable (λ a i. (free_parts v ps h body a.scalar (clear.scalars a i)).0)),
            all_append P (undefined_by scope e.behind_bounds h.private) (undefined_all scope e.inner)
                (undefined_kept e.behind_bounds h.private (none_total ps h.private (λ a i. (free_lists v ps h body a.scalar (clear.scalars a i)).0)))
                (all_undefined_kept e.inner (none_total ps e.inner (λ a i. inner_free v ps h body a.scalar (clear.scalars a i) h.parallel))),
          )

      entry_kept : (seen : List Seen) (l : Limits) → AllTouch P (numbered 1 seen) → AllTouch P (entry_touches seen (entered_with p n h body seen l) scope)
      entry_kept seen l reads_kept = let e = entered_with p n h body seen l in all_append P (numbered 1 seen) (exit_when_none e.count e scope) reads_kept (go (e.count == 0))
        where
          go : (b : Bool) → AllTouch P (if b then exit_touches (entered_with p n h body seen l) scope else [])
          go true = exits_kept seen l
          go false = tt

      module _ (counts : f n ≡ f' m) where
        -- both programs enter it alike
        entered_same : (seen : List Seen) (l : Limits) → entered_with p n h body seen l ≡ entered_with q m h (all_summed v ps body) seen l
        entered_same seen l = λ i. record {
          number = counts i;
          head = h;
          first = l.first;
          step = increment constants h;
          count = iteration_count l.first l.last (increment constants h);
          behind_bounds = number_behind 1 seen;
          inner = inner h.parallel i;
        }
          where
            inner : (b : Bool) → inner_variables b body ≡ inner_variables b (all_summed v ps body)
            inner true = ap sorted_once (sym (all_variables_kept v ps body))
            inner false = refl

        do_along : (r z : Frame → Store → Run) → ((seen : List Seen) (l : Limits) (j : ℕ) → Along W C (r (frame (entered_with p n h body seen l) j)) (z (frame (entered_with p n h body seen l) j))) → Along W C (run_do p n scope h body r) (run_do q m scope h (all_summed v ps body) z)
        do_along r z more s u within =
            let seen_others = sight.limits_seen P (is_either ps) g (scalars ps g stands.others (place_of p n scope)) (elements ps g stands.others (place_of p n scope)) h s clear.first clear.last in
            let same : limits g h u ≡ limits g h s = (limits_told g h).comes s u (holds_same P s u within.same (limits g h s).seen seen_others ((limits_told g h).holds s)) in
            on_along W C (place_of p n scope) (place_of q m scope) (limits g h s) (limits g h u)
            (λ seen l. run_from_entry seen (entered_with p n h body seen l) scope (place_of p n scope) r s)
            (λ seen l. run_from_entry seen (entered_with q m h (all_summed v ps body) seen l) scope (place_of q m scope) z u)
            (sym same)
            (λ l come. from_entry (limits g h s).seen l (numbered_touch P 1 (limits g h s).seen seen_others))
          where
            from_entry : (seen : List Seen) (l : Limits) → AllTouch P (numbered 1 seen)
                → GoesAlong W C (run_from_entry seen (entered_with p n h body seen l) scope (place_of p n scope) r s) (run_from_entry seen (entered_with q m h (all_summed v ps body) seen l) scope (place_of q m scope) z u)
            from_entry seen l reads_kept =
                let e = entered_with p n h body seen l in
                subst (λ (y : Entered). GoesAlong W C (run_from_entry seen e scope (place_of p n scope) r s) (run_from_entry seen y scope (place_of q m scope) z u)) (entered_same seen l)
                (entry_along W C e scope (place_of p n scope) (place_of q m scope) (AllTouch P) (λ ts kept s u within. within_touches ps k o w ts s u kept within) (λ step ts kept. same_touches ps k told o w step (place_of p n scope) (place_of q m scope) ts refl)
                tt (exits_kept seen l) r z (more seen l) seen (entry_kept seen l reads_kept) s u within)

  mutual
    run_along : (t : StmtTree) (n m : ℕ) (scope : Scope) → IsClear ps v t → CountsAlike f f' v ps t n m → Stands scope → Along W C (run p t n scope) (run_all q (summed v ps t) m scope)
    run_along (Assign left right) n m scope clear counts stands = assignment_along scope stands n m counts left right ps (λ a i. i) clear
    run_along (If c a b) n m scope clear counts stands =
        alone_along (run p (If c a b) n scope) (run q (If c (all_summed v ps a) (all_summed v ps b)) m scope)
        (if_along scope stands n m c (run_all p a (n + 1) scope) (run_all q (all_summed v ps a) (m + 1) scope) (run_all p b (n + 1 + statements_count a) scope) (run_all q (all_summed v ps b) (m + 1 + statements_count (all_summed v ps a)) scope) clear.0
        (all_along a (n + 1) (m + 1) scope clear.1.0 counts.1.0 stands) (all_along b (n + 1 + statements_count a) (m + 1 + statements_count (all_summed v ps a)) scope clear.1.1 counts.1.1 stands))
    run_along (Do h body) n m scope clear counts stands =
        alone_along (run p (Do h body) n scope) (run q (Do h (all_summed v ps body)) m scope)
        (do_along scope stands n m h body clear.0 counts.0 (λ e. run_all p body (n + 1) (e ∷ scope)) (λ e. run_all q (all_summed v ps body) (m + 1) (e ∷ scope))
        (λ seen l j. all_along body (n + 1) (m + 1) (frame (entered_with p n h body seen l) j ∷ scope) clear.1 counts.1 (deeper scope stands n m h body clear.0 seen l j)))
    run_along (Print items) n m scope clear counts stands = print_along scope stands n m counts items clear
    run_along (Read items) n m scope clear counts stands = read_along scope stands n m counts items clear
    run_along Stop n m scope clear counts stands = λ s u within t e. absurd cc
    run_along (Comment text) n m scope clear counts stands = alone_along nothing_done nothing_done (nothing_along W C)

    -- statements in which sums are kept apart go on where the statements do, and keep what has been added
    pub all_along : (ts : StmtTrees) (n m : ℕ) (scope : Scope) → AreClear ps v ts → CountAlike f f' v ps ts n m → Stands scope → Along W C (run_all p ts n scope) (run_all q (all_summed v ps ts) m scope)
    all_along no_stmts n m scope clear counts stands = nothing_along W C
    all_along (more_stmts t rest) n m scope clear counts stands =
        subst (λ (y : Store → Run). Along W C (run_all p (more_stmts t rest) n scope) y) (sym (run_followed q (summed v ps t) (all_summed v ps rest) m scope))
        (then_along W C (run p t n scope) (run_all q (summed v ps t) m scope) (run_all p rest (n + statement_count t) scope) (run_all q (all_summed v ps rest) (m + statements_count (summed v ps t)) scope)
        (run_along t n m scope clear.0 counts.0 stands) (all_along rest (n + statement_count t) (m + statements_count (summed v ps t)) scope clear.1 counts.1 stands))
