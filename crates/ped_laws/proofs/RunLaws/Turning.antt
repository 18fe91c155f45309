-- Copies, and the iterations that they belong to.
use Rattle.std.proofs.Common.{◌≡◌, ℕ, List, [], ◌∷◌, ◌++◌, Bool, true, false, eqb, eqb-true, refl, sym, ap, ◌∙◌, arith, if◌then◌else◌, ◌||◌}
use Rattle.std.proofs.lemmas.Bool.{and_parts, both_ways, or_right}
use Rattle.std.proofs.lemmas.List.Folds.{list_any-append}
use Rattle.std.proofs.lemmas.Map.Lookups.{exact_bytes}
use Rattle.std.specs.Ordering.{nat_cmp}
use Rattle.std.specs.declared.cmp.Ordering.{Ordering}
use Rattle.std.specs.declared.cmp.Ordering.TheVariants.{Less, Equal, Greater}
use Rattle.std.specs.Cmp.Lexicographic.{slice_cmp}
use Rattle.ped_flow.specs.ped_base.specs.Lists.{is_same_text, is_among}
use Rattle.ped_flow.specs.ped_tree.specs.Tree.{StmtTrees}
use Rattle.ped_eval.specs.ped_store.specs.Cells.{Cell, Scalar, Element, Private, In, Out, Iteration}
use Rattle.ped_eval.specs.ped_store.specs.Acts.{Turn, iterations_of}
use Rattle.ped_eval.specs.ped_store.specs.Races.{are_apart}
use Rattle.ped_eval.specs.Scopes.{Scope, turns_of, cell_of}
use Rattle.ped_eval.specs.Loops.{Entered, frame, with_name_by, with_sorted, sorted_once, inner_variables}
use Rattle.ped_flow.specs.ped_tree.specs.NamesIn.{all_loop_variables}
use Rattle.ped_laws.specs.Runs.Touching.{HasCopies, HaveCopies}

-- the iterations of a copy are the outer ones of these
abbrev pub Front : List Iteration → List Turn → Type 0
Front [] ts = Unit {0}
Front (i ∷ path) [] = ⊥
Front (i ∷ path) (t ∷ ts) = (i.number ≡ t.number) × Front path ts

-- a cell that these iterations reach: no copy, or one of theirs
abbrev pub At : List Turn → Cell → Type 0
At ts (Scalar x) = Unit {0}
At ts (Element x js) = Unit {0}
At ts (Private x path) = Front path ts
At ts In = Unit {0}
At ts Out = Unit {0}

abbrev pub NoneParallel : List Turn → Type 0
NoneParallel [] = Unit {0}
NoneParallel (t ∷ ts) = (t.parallel ≡ false) × NoneParallel ts

-- the iterations of a copy are the outer ones of these, and no PARALLEL DO is further in
abbrev pub Covers : List Turn → List Iteration → Type 0
Covers [] [] = Unit {0}
Covers [] (i ∷ path) = ⊥
Covers (t ∷ ts) [] = NoneParallel (t ∷ ts)
Covers (t ∷ ts) (i ∷ path) = (i.number ≡ t.number) × Covers ts path

-- a cell that belongs to the iteration of the innermost PARALLEL DO, where there is one
abbrev pub Owned : List Turn → Cell → Type 0
Owned ts (Scalar x) = NoneParallel ts
Owned ts (Element x js) = NoneParallel ts
Owned ts (Private x path) = Covers ts path
Owned ts In = NoneParallel ts
Owned ts Out = NoneParallel ts

front_all : (ts more : List Turn) → Front (iterations_of ts) (ts ++ more)
front_all [] more = tt
front_all (t ∷ ts) more = (refl, front_all ts more)

front_itself : (ts : List Turn) → Front (iterations_of ts) ts
front_itself [] = tt
front_itself (t ∷ ts) = (refl, front_itself ts)

front_more : (path : List Iteration) (ts more : List Turn) → Front path ts → Front path (ts ++ more)
front_more [] ts more h = tt
front_more (i ∷ path) [] more h = absurd h
front_more (i ∷ path) (t ∷ ts) more h = (h.0, front_more path ts more h.1)

at_more : (c : Cell) (ts more : List Turn) → At ts c → At (ts ++ more) c
at_more (Scalar x) ts more h = tt
at_more (Element x js) ts more h = tt
at_more (Private x path) ts more h = front_more path ts more h
at_more In ts more h = tt
at_more Out ts more h = tt

-- the cell of a scalar is one that the place reaches
pub cell_at : (scope : Scope) (x : List ℕ) → At (turns_of scope) (cell_of scope x)
cell_at [] x = tt
cell_at (f ∷ fs) x = go (is_among x f.private) (at_more (cell_of fs x) (turns_of fs) (f.turn ∷ []) (cell_at fs x))
  where
    go : (b : Bool) → At (turns_of fs ++ f.turn ∷ []) (cell_of fs x) → At (turns_of (f ∷ fs)) (if b then Private x (iterations_of (turns_of (f ∷ fs))) else cell_of fs x)
    go true h = front_itself (turns_of (f ∷ fs))
    go false h = h

covers_itself : (ts : List Turn) → Covers ts (iterations_of ts)
covers_itself [] = tt
covers_itself (t ∷ ts) = (refl, covers_itself ts)

none_more : (ts : List Turn) (t : Turn) → t.parallel ≡ false → NoneParallel ts → NoneParallel (ts ++ t ∷ [])
none_more [] t e h = (e, tt)
none_more (u ∷ ts) t e h = (h.0, none_more ts t e h.1)

covers_more : (ts : List Turn) (path : List Iteration) (t : Turn) → t.parallel ≡ false → Covers ts path → Covers (ts ++ t ∷ []) path
covers_more [] [] t e h = (e, tt)
covers_more [] (i ∷ path) t e h = absurd h
covers_more (u ∷ ts) [] t e h = (h.0, none_more ts t e h.1)
covers_more (u ∷ ts) (i ∷ path) t e h = (h.0, covers_more ts path t e h.1)

owned_more : (c : Cell) (ts : List Turn) (t : Turn) → t.parallel ≡ false → Owned ts c → Owned (ts ++ t ∷ []) c
owned_more (Scalar x) ts t e h = none_more ts t e h
owned_more (Element x js) ts t e h = none_more ts t e h
owned_more (Private x path) ts t e h = covers_more ts path t e h
owned_more In ts t e h = none_more ts t e h
owned_more Out ts t e h = none_more ts t e h

-- the cell of a name with copies belongs to the iteration of the innermost PARALLEL DO
pub cell_owned : (scope : Scope) (x : List ℕ) → HasCopies scope x → Owned (turns_of scope) (cell_of scope x)
cell_owned [] x h = tt
cell_owned (f ∷ fs) x h = go (is_among x f.private) f.turn.parallel refl refl (cell_owned fs x h.1)
  where
    go : (b q : Bool) → is_among x f.private ≡ b → f.turn.parallel ≡ q → Owned (turns_of fs) (cell_of fs x) → Owned (turns_of (f ∷ fs)) (if b then Private x (iterations_of (turns_of (f ∷ fs))) else cell_of fs x)
    go true q e r k = covers_itself (turns_of (f ∷ fs))
    go false true e r k = absurd (both_ways (is_among x f.private) e (h.0 r))
    go false false e r k = owned_more (cell_of fs x) (turns_of fs) f.turn r k

-- in another iteration of that PARALLEL DO it isn't reached
none_apart : (ts us : List Turn) → are_apart ts us ≡ true → NoneParallel ts → ⊥
none_apart [] us h k = absurd cc
none_apart (t ∷ ts) [] h k = absurd cc
none_apart (t ∷ ts) (u ∷ us) h k = go (eqb t.number u.number) (and_parts (eqb t.statement u.statement) (if eqb t.number u.number then are_apart ts us else t.parallel) h).1 (λ e. none_apart ts us e k.1)
  where
    go : (b : Bool) → (if b then are_apart ts us else t.parallel) ≡ true → (are_apart ts us ≡ true → ⊥) → ⊥
    go true e more = more e
    go false e more = both_ways t.parallel k.0 e

number_itself : (n : ℕ) → eqb n n ≡ true
number_itself n = grind (arith, eqb-true)

covers_apart : (ts us : List Turn) (path : List Iteration) → are_apart ts us ≡ true → Covers ts path → Front path us → ⊥
covers_apart [] us path h k f = absurd cc
covers_apart (t ∷ ts) [] path h k f = absurd cc
covers_apart (t ∷ ts) (u ∷ us) [] h k f = none_apart (t ∷ ts) (u ∷ us) h k
covers_apart (t ∷ ts) (u ∷ us) (i ∷ path) h k f =
    let e : t.number ≡ u.number = sym k.0 ∙ f.0 in
    let same : eqb t.number u.number ≡ true = ap (eqb t.number) (sym e) ∙ number_itself t.number in
    covers_apart ts us path
    (sym (ap (λ (b : Bool). if b then are_apart ts us else t.parallel) same) ∙ (and_parts (eqb t.statement u.statement) (if eqb t.number u.number then are_apart ts us else t.parallel) h).1)
    k.1 f.1

pub owned_apart : (ts us : List Turn) (c : Cell) → are_apart ts us ≡ true → Owned ts c → At us c → ⊥
owned_apart ts us (Scalar x) h k f = none_apart ts us h k
owned_apart ts us (Element x js) h k f = none_apart ts us h k
owned_apart ts us (Private x path) h k f = covers_apart ts us path h k f
owned_apart ts us In h k f = none_apart ts us h k
owned_apart ts us Out h k f = none_apart ts us h k

-- names in byte order, each once, are the same names
or_twice : (b c : Bool) → b || c ≡ b || (b || c)
or_twice true c = refl
or_twice false c = refl

or_turned : (a b c : Bool) → a || (b || c) ≡ b || (a || c)
or_turned true true c = refl
or_turned true false c = refl
or_turned false b c = refl

name_among : (z x y : List ℕ) (rest further : List (List ℕ)) (o : Ordering) → (o ≡ Equal → x ≡ y) → is_among z further ≡ is_same_text z x || is_among z rest
    → is_among z (with_name_by o x y rest further) ≡ is_same_text z x || (is_same_text z y || is_among z rest)
name_among z x y rest further Less e h = refl
name_among z x y rest further Equal e h = or_twice (is_same_text z y) (is_among z rest) ∙ ap (λ w. is_same_text z w || (is_same_text z y || is_among z rest)) (sym (e refl))
name_among z x y rest further Greater e h = ap (λ b. is_same_text z y || b) h ∙ or_turned (is_same_text z y) (is_same_text z x) (is_among z rest)

sorted_among : (z x : List ℕ) (ys : List (List ℕ)) → is_among z (with_sorted x ys) ≡ is_same_text z x || is_among z ys
sorted_among z x [] = refl
sorted_among z x (y ∷ ys) = name_among z x y ys (with_sorted x ys) (slice_cmp nat_cmp x y) (λ e. exact_bytes x y e) (sorted_among z x ys)

pub once_among : (z : List ℕ) (xs : List (List ℕ)) → is_among z (sorted_once xs) ≡ is_among z xs
once_among z [] = refl
once_among z (x ∷ xs) = sorted_among z x (sorted_once xs) ∙ ap (λ b. is_same_text z x || b) (once_among z xs)

pub inner_among : (parallel : Bool) (body : StmtTrees) (z : List ℕ) → is_among z (inner_variables parallel body) ≡ true → is_among z (all_loop_variables body) ≡ true
inner_among true body z h = sym (once_among z (all_loop_variables body)) ∙ h
inner_among false body z h = absurd cc

-- the variables of the DO loops in a PARALLEL DO have copies in its iterations
pub body_copies : (scope : Scope) (e : Entered) (k : ℕ) (body : StmtTrees) → e.inner ≡ inner_variables e.head.parallel body → HaveCopies scope (all_loop_variables body) → HaveCopies (frame e k ∷ scope) (all_loop_variables body)
body_copies scope e k body q h x i = (λ r. go e.head.parallel q r, h x i)
  where
    go : (b : Bool) → e.inner ≡ inner_variables b body → b ≡ true → is_among x (if b then e.head.variable ∷ (e.head.private ++ e.inner) else e.head.private) ≡ true
    go false s r = absurd cc
    go true s r =
        or_right (is_same_text x e.head.variable) (is_among x (e.head.private ++ e.inner))
        (list_any-append (is_same_text x) e.head.private e.inner
        ∙ or_right (is_among x e.head.private) (is_among x e.inner) (ap (is_among x) s ∙ once_among x (all_loop_variables body) ∙ i))
