-- Dependences selected by what a graph holds are those that the definitions select.
use Rattle.std.proofs.Common.{◌≡◌, ℕ, zero, suc, ◌-◌, ◌==◌, List, [], ◌∷◌, map, filter, cond, slice_index_or, refl, sym, ap, ◌∙◌, ◌&&◌, Bool, true, false, None, Some, if◌then◌else◌, All, subst, arith}
use Rattle.std.proofs.lemmas.Bool.Decides.{nat_tests}
use Rattle.std.proofs.lemmas.List.Elements.{All-filter}
use Rattle.ped_tree.specs.Tree.{StmtTree, ProgramTree}
use Rattle.ped_tree.specs.Numbering.{all_numbered, at_place, statement_count}
use Rattle.ped_edges.specs.Edges.{Edge}
use Rattle.ped_edges.specs.CodeEdges.{edge_of}
use Rattle.ped_edges.specs.declared.edges.Edge.{Edge as CodeEdge}
use Rattle.ped_graph.specs.DependencePane.{extent_by, extent_of, is_level, edges_of, edges_at}
use Rattle.ped_graph.specs.Held.{Held, held_of}
use Rattle.ped_graph.specs.HeldSelections.{extent_held, touches, stands_in, is_carried_in}

-- one more item, kept or not
kept_mapped : {X Y : Type 0} (f : X → Y) (x : X) (xs : List X) (ys : List Y) (keeps : Bool) → map f xs ≡ ys → map f (cond keeps (x ∷ xs) xs) ≡ cond keeps (f x ∷ ys) ys
kept_mapped f x xs ys true e = ap (λ (zs : List _). f x ∷ zs) e
kept_mapped f x xs ys false e = e

-- to keep items by what they stand for is to keep what they stand for
filter_mapped : {X Y : Type 0} (f : X → Y) (p : Y → Bool) (xs : List X) → map f (filter (λ x. p (f x)) xs) ≡ filter p (map f xs)
filter_mapped f p [] = refl
filter_mapped f p (x ∷ xs) = kept_mapped f x (filter (λ y. p (f y)) xs) (filter p (map f xs)) (p (f x)) (filter_mapped f p xs)

-- the extent of the statement at a place
extent_at : (ss : List StmtTree) (n : ℕ) → slice_index_or (map statement_count ss) n 0 ≡ extent_by (at_place ss n)
extent_at [] n = refl
extent_at (s ∷ ss) zero = refl
extent_at (s ∷ ss) (suc n) =
    let e : suc n - 1 ≡ n = omega arith in
    let z : (suc n == 0) ≡ false = grind (arith, nat_tests) in
    let p : extent_by (at_place (s ∷ ss) (suc n)) ≡ extent_by (at_place ss n) = λ i. extent_by (if z i then Some s else at_place ss (e i)) in
    extent_at ss n ∙ sym p

-- the extent that is held is the statement's
extent_by_test : (t : ProgramTree) (number : ℕ) (is_none : Bool)
    → (if is_none then 0 else slice_index_or (map statement_count (all_numbered t.body)) (number - 1) 0)
    ≡ extent_by (if is_none then None else at_place (all_numbered t.body) (number - 1))
extent_by_test t number true = refl
extent_by_test t number false = extent_at (all_numbered t.body) (number - 1)

pub extent_is : (t : ProgramTree) (h : Held) (number : ℕ) → h ≡ held_of t → extent_held h.frame.extents number ≡ extent_of t number
extent_is t h number is = ap (λ (k : Held). extent_held k.frame.extents number) is ∙ extent_by_test t number (number == 0)

-- the dependences of a statement, where others than these have the same of it
pub same_touching : (t : ProgramTree) (number extent : ℕ) (found : List CodeEdge) (all : List Edge) (kept : List CodeEdge) → extent ≡ extent_of t number
    → kept ≡ filter (λ e. touches number extent (edge_of e)) found
    → filter (λ e. touches number extent e) (map edge_of found) ≡ filter (λ e. touches number extent e) all → map edge_of kept ≡ edges_of t number all
same_touching t number extent found all kept size is same =
    ap (λ (es : List CodeEdge). map edge_of es) is ∙ filter_mapped edge_of (touches number extent) found ∙ same ∙ ap (λ (k : ℕ). filter (touches number k) all) size

-- the dependences of a level in a DO
pub carried_in : (t : ProgramTree) (number extent level : ℕ) (all kept : List CodeEdge) → extent ≡ extent_of t number
    → kept ≡ filter (λ e. is_carried_in number extent level (edge_of e)) all → map edge_of kept ≡ edges_at t number level (map edge_of all)
carried_in t number extent level all kept size is =
    ap (λ (es : List CodeEdge). map edge_of es) is ∙ filter_mapped edge_of (is_carried_in number extent level) all ∙ ap (λ (k : ℕ). filter (is_carried_in number k level) (map edge_of all)) size

-- the same, where others than these have the same of the level in the DO
pub same_carried_in : (t : ProgramTree) (number extent level : ℕ) (found : List CodeEdge) (all : List Edge) (kept : List CodeEdge) → extent ≡ extent_of t number
    → kept ≡ filter (λ e. is_carried_in number extent level (edge_of e)) found
    → filter (λ e. is_carried_in number extent level e) (map edge_of found) ≡ filter (λ e. is_carried_in number extent level e) all → map edge_of kept ≡ edges_at t number level all
same_carried_in t number extent level found all kept size is same =
    ap (λ (es : List CodeEdge). map edge_of es) is ∙ filter_mapped edge_of (is_carried_in number extent level) found ∙ same ∙ ap (λ (k : ℕ). filter (is_carried_in number k level) all) size

-- those that pass a test that all pass
all_pass : {X : Type 0} (xs : List X) → filter (λ x. true) xs ≡ xs
all_pass [] = refl
all_pass (x ∷ xs) = ap (λ (ys : List _). x ∷ ys) (all_pass xs)

-- all dependences, where all are asked for
pub all_same : (found all : List Edge) → filter (λ e. true) found ≡ filter (λ e. true) all → all ≡ found
all_same found all same = sym (sym (all_pass found) ∙ same ∙ all_pass all)

and_true : (a : Bool) → (a && true) ≡ a
and_true true = refl
and_true false = refl

never_both : (a : Bool) → (a && false) ≡ false
never_both true = refl
never_both false = refl

one_of_both : {X : Type 0} (p : X → Bool) (x : X) (both kept : List X) (b : Bool) → both ≡ filter p kept → cond (p x && b) (x ∷ both) both ≡ filter p (cond b (x ∷ kept) kept)
one_of_both p x both kept true e = λ i. cond (and_true (p x) i) (x ∷ e i) (e i)
one_of_both p x both kept false e = (λ i. cond (never_both (p x) i) (x ∷ both) both) ∙ e

-- what passes both tests, of what passes the second
both_kept : {X : Type 0} (p q : X → Bool) (xs : List X) → filter (λ x. p x && q x) xs ≡ filter p (filter q xs)
both_kept p q [] = refl
both_kept p q (x ∷ xs) = one_of_both p x (filter (λ y. p y && q y) xs) (filter q xs) (q x) (both_kept p q xs)

-- the same dependences of each level, where the same stand in the body
pub same_of_level : (number extent level : ℕ) (found all : List Edge) → filter (λ e. stands_in number extent e) found ≡ filter (λ e. stands_in number extent e) all
    → filter (λ e. is_carried_in number extent level e) found ≡ filter (λ e. is_carried_in number extent level e) all
same_of_level number extent level found all same =
    both_kept (λ e. is_level level e.level) (stands_in number extent) found
    ∙ ap (λ (es : List Edge). filter (λ e. is_level level e.level) es) same
    ∙ sym (both_kept (λ e. is_level level e.level) (stands_in number extent) all)

-- what all have, those that are kept have
pub all_kept : {X : Type 0} (P : X → Type 0) (p : X → Bool) (all kept : List X) → kept ≡ filter p all → All P all → All P kept
all_kept P p all kept is h = subst (λ (xs : List _). All P xs) (sym is) (All-filter p P all h)
