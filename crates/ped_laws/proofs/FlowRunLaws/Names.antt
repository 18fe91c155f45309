-- The names of which the iterations of a DO have copies, in runs and on paths.
use Rattle.std.proofs.Common.{◌≡◌, ℕ, suc, ◌+◌, ◌≤◌, List, [], ◌∷◌, ◌++◌, length, Bool, true, false, ◌||◌, if◌then◌else◌, refl, sym, ap, ◌∙◌, arith}
use Rattle.std.specs.Ordering.{nat_cmp}
use Rattle.std.specs.declared.cmp.Ordering.{Ordering}
use Rattle.std.specs.declared.cmp.Ordering.TheVariants.{Less, Equal, Greater}
use Rattle.std.specs.Cmp.Lexicographic.{slice_cmp}
use Rattle.std.proofs.lemmas.Map.Lookups.{exact_bytes}
use Rattle.std.proofs.lemmas.List.{append-nil, length-append, length-map}
use Rattle.std.proofs.lemmas.List.Folds.{list_any-append}
use Rattle.ped_flow.specs.ped_base.specs.Lists.{is_same_text, is_among}
use Rattle.ped_flow.specs.ped_tree.specs.Tree.{Head, StmtTree, StmtTrees, Assign, If, Do, Print, Read, Stop, Comment, no_stmts, more_stmts}
use Rattle.ped_flow.specs.ped_tree.specs.NamesIn.{loop_variables, all_loop_variables}
use Rattle.ped_eval.specs.ped_store.specs.Cells.{Cell, Scalar, Element, Private, In, Out, Iteration, same_cell}
use Rattle.ped_eval.specs.ped_store.specs.Acts.{iterations_of}
use Rattle.ped_eval.specs.Scopes.{Scope, turns_of, cell_of}
use Rattle.ped_eval.specs.Loops.{with_name_by, with_sorted, sorted_once, inner_variables, Entered, copied_names}
use Rattle.ped_flow.specs.ped_tree.specs.NamesIn.{loop_variables, all_loop_variables}
use Rattle.ped_flow.specs.Events.{copied}
use Rattle.ped_flow.proofs.Truths.{untrue}
use Rattle.ped_laws.proofs.ActLaws.SameCells.{is_cell, other_cell}
use Rattle.ped_flow.specs.ped_base.proofs.NameEquality.{same_itself, same_is}
use Rattle.ped_laws.proofs.FlowRunLaws.Cells.{cell_named, stands_for}

-- the variables of DO loops, as runs and as paths list them
mutual
  index_same : (t : StmtTree) → loop_variables t ≡ loop_variables t
  index_same (Assign left right) = refl
  index_same (If condition a b) = λ i. all_index_same a i ++ all_index_same b i
  index_same (Do h b) = ap (λ z. h.variable ∷ z) (all_index_same b)
  index_same (Print items) = refl
  index_same (Read items) = refl
  index_same Stop = refl
  index_same (Comment text) = refl

  all_index_same : (ts : StmtTrees) → all_loop_variables ts ≡ all_loop_variables ts
  all_index_same no_stmts = refl
  all_index_same (more_stmts t rest) = λ i. index_same t i ++ all_index_same rest i

or_swap : (a b c : Bool) → (a || (b || c)) ≡ (b || (a || c))
or_swap true true c = refl
or_swap true false c = refl
or_swap false b c = refl

or_once : (a b : Bool) → (a || b) ≡ (a || (a || b))
or_once true b = refl
or_once false b = refl

-- sorting keeps names
by_order : (x y z : List ℕ) (zs further : List (List ℕ)) (o : Ordering) → slice_cmp nat_cmp y z ≡ o → is_among x further ≡ (is_same_text x y || is_among x zs)
    → is_among x (with_name_by o y z zs further) ≡ (is_same_text x y || (is_same_text x z || is_among x zs))
by_order x y z zs further Less e h = refl
by_order x y z zs further Equal e h =
    let it : y ≡ z = exact_bytes y z e in
    or_once (is_same_text x z) (is_among x zs) ∙ ap (λ (n : List ℕ). is_same_text x n || (is_same_text x z || is_among x zs)) (sym it)
by_order x y z zs further Greater e h = ap (λ (b : Bool). is_same_text x z || b) h ∙ or_swap (is_same_text x z) (is_same_text x y) (is_among x zs)

with_sorted_among : (x y : List ℕ) (zs : List (List ℕ)) → is_among x (with_sorted y zs) ≡ (is_same_text x y || is_among x zs)
with_sorted_among x y [] = refl
with_sorted_among x y (z ∷ zs) = by_order x y z zs (with_sorted y zs) (slice_cmp nat_cmp y z) refl (with_sorted_among x y zs)

pub sorted_among : (x : List ℕ) (ys : List (List ℕ)) → is_among x (sorted_once ys) ≡ is_among x ys
sorted_among x [] = refl
sorted_among x (y ∷ ys) = with_sorted_among x y (sorted_once ys) ∙ ap (λ (b : Bool). is_same_text x y || b) (sorted_among x ys)

pub inner_among : (x : List ℕ) (b : StmtTrees) → is_among x (inner_variables true b) ≡ is_among x (all_loop_variables b)
inner_among x b = sorted_among x (all_loop_variables b) ∙ ap (is_among x) (all_index_same b)

-- what the exit of a DO clears on a path
abbrev pub cleared : Head → StmtTrees → List (List ℕ)
cleared h b = (if h.parallel then h.variable ∷ [] else []) ++ copied h b

-- the names of which an iteration has copies are those that the exit clears
pub copied_among : (x : List ℕ) (h : Head) (b : StmtTrees) (e : Entered) → e.head ≡ h → e.inner ≡ inner_variables h.parallel b → is_among x (copied_names e) ≡ is_among x (cleared h b)
copied_among x h b e head inner = names ∙ by h.parallel
  where
    names : is_among x (copied_names e) ≡ is_among x (if h.parallel then h.variable ∷ (h.private ++ inner_variables h.parallel b) else h.private)
    names = λ i. is_among x (if (head i).parallel then (head i).variable ∷ ((head i).private ++ inner i) else (head i).private)

    by : (parallel : Bool) → is_among x (if parallel then h.variable ∷ (h.private ++ inner_variables parallel b) else h.private)
        ≡ is_among x ((if parallel then h.variable ∷ [] else []) ++ (h.private ++ (if parallel then all_loop_variables b else [])))
    by true =
        ap (λ (z : Bool). is_same_text x h.variable || z)
        (list_any-append (is_same_text x) h.private (inner_variables true b) ∙ ap (λ (z : Bool). is_among x h.private || z) (inner_among x b) ∙ sym (list_any-append (is_same_text x) h.private (all_loop_variables b)))
    by false = ap (is_among x) (sym (append-nil h.private))

-- two scalars stand for one cell at a place exactly where they are the same
pub same_cells : (S : Scope) (y x : List ℕ) → same_cell (cell_of S y) (cell_of S x) ≡ is_same_text x y
same_cells S y x = by (is_same_text x y) refl
  where
    differ : is_same_text x y ≡ false → cell_of S y ≡ cell_of S x → ⊥
    differ e c =
        let it : y ≡ x = stands_for S x y (cell_of S x) (cell_named S x) (is_cell (cell_of S y) (cell_of S x) c) in
        let z : false ≡ true = sym e ∙ (ap (is_same_text x) it ∙ same_itself x) in
        untrue z

    by : (b : Bool) → is_same_text x y ≡ b → same_cell (cell_of S y) (cell_of S x) ≡ is_same_text x y
    by true e = is_cell (cell_of S y) (cell_of S x) (ap (cell_of S) (sym (same_is x y e))) ∙ sym e
    by false e = other_cell (cell_of S y) (cell_of S x) (differ e) ∙ sym e

-- the number of iterations that a copy is named by
abbrev depth : Cell → ℕ
depth (Scalar x) = 0
depth (Element x js) = 0
depth (Private x is) = length is
depth In = 0
depth Out = 0

turns_long : (S : Scope) → length (turns_of S) ≡ length S
turns_long [] = refl
turns_long (f ∷ fs) =
    let l : length (turns_of fs ++ f.turn ∷ []) ≡ length (turns_of fs) + 1 = length-append (turns_of fs) (f.turn ∷ []) in
    let r = turns_long fs in
    let s : suc (length fs) ≡ length fs + 1 = omega arith in
    l ∙ (ap (λ (n : ℕ). n + 1) r ∙ sym s)

pub iterations_long : (S : Scope) → length (iterations_of (turns_of S)) ≡ length S
iterations_long S = length-map (turns_of S) _ ∙ turns_long S

cell_shallow : (S : Scope) (x : List ℕ) → depth (cell_of S x) ≤ length S
cell_shallow [] x = omega arith
cell_shallow (f ∷ fs) x = by (is_among x f.private) (cell_shallow fs x)
  where
    by : (b : Bool) → depth (cell_of fs x) ≤ length fs → depth (if b then Private x (iterations_of (turns_of (f ∷ fs))) else cell_of fs x) ≤ suc (length fs)
    by true h = let l = iterations_long (f ∷ fs) in omega (arith, l)
    by false h = omega (arith, h)

-- what a scalar stands for is no copy of an iteration further in
pub no_copy_within : (S : Scope) (x y : List ℕ) (i : Iteration) (rest : List Iteration) → cell_of S x ≡ Private y (iterations_of (turns_of S) ++ i ∷ rest) → ⊥
no_copy_within S x y i rest e =
    let d : depth (cell_of S x) ≡ length (iterations_of (turns_of S) ++ i ∷ rest) = ap depth e in
    let l : length (iterations_of (turns_of S) ++ i ∷ rest) ≡ length (iterations_of (turns_of S)) + suc (length rest) = length-append (iterations_of (turns_of S)) (i ∷ rest) in
    let n = iterations_long S in
    let s = cell_shallow S x in
    omega (arith, d, l, n, s)
