-- The numbers of the references that make the touches of an act: they rise.
use Rattle.std.proofs.Common.{◌≡◌, ℕ, suc, ◌<◌, ◌≤◌, ℤ, List, [], ◌∷◌, ◌++◌, Bool, true, false, eqb, eqb-true, Result, Ok, Err, refl, sym, ap, subst, ◌⊎◌, inl, inr, arith, if◌then◌else◌, append_assoc, append-nil}
use Rattle.ped_flow.specs.ped_tree.specs.Tree.{ExprTree}
use Rattle.ped_eval.specs.ped_store.specs.Cells.{Cell}
use Rattle.ped_eval.specs.ped_store.specs.Stores.{Number, Store, put, lines_in}
use Rattle.ped_eval.specs.ped_store.specs.Cells as cells
use Rattle.ped_eval.specs.ped_store.specs.Acts.{Touch}
use Rattle.ped_eval.specs.ped_store.specs.Races.{is_write}
use Rattle.ped_eval.specs.ped_store.specs.DataLines.{Data, begun, Taken, next_value_of}
use Rattle.ped_eval.specs.Scopes.{Scope, Names}
use Rattle.ped_eval.specs.Evaluation.{Seen, cell_seen, index_seen, numbered, number_behind}
use Rattle.ped_eval.specs.Values.{target}
use Rattle.ped_eval.specs.Statements.{Stored, assignment_touches, print_touches, write_touch, Taking, into_item, with_taken, taking, taking_from, reading, reading_touches}
use Rattle.ped_eval.specs.Loops.{Entered, undefined_by, undefined_all, exit_touches, exit_when_none}
use Rattle.ped_laws.proofs.RunLaws.Touches.{Each, each_none, each_more, each_append}
use Rattle.ped_laws.proofs.ConflictLaws.SequencePairs.{Pairwise}

-- the numbers of the references rise, from this one on
abbrev pub Rise : ℕ → List Touch → Type 0
Rise n [] = Unit {0}
Rise n (t ∷ ts) = ((t.reference ≡ 0) × Rise n ts) ⊎ ((n ≤ t.reference) × Rise (suc t.reference) ts)

-- a touch that a reference makes has this number at least
abbrev pub From : ℕ → Touch → Type 0
From n t = 0 < t.reference → n ≤ t.reference

-- of two touches that references make the first has the lesser number
abbrev pub Lesser : Touch → Touch → Type 0
Lesser t u = 0 < t.reference → 0 < u.reference → t.reference < u.reference

pub rise_from : (n m : ℕ) (ts : List Touch) → n ≤ m → Rise m ts → Rise n ts
rise_from n m [] l h = tt
rise_from n m (t ∷ ts) l (inl h) = inl (h.0, rise_from n m ts l h.1)
rise_from n m (t ∷ ts) l (inr h) = let k = h.0 in inr (omega (arith, k, l), h.1)

pub rise_least : (n : ℕ) (ts : List Touch) → Rise n ts → Each (From n) ts
rise_least n [] h = each_none (From n)
rise_least n (t ∷ ts) (inl h) = let e = h.0 in each_more (From n) t ts (λ z. omega (arith, e, z)) (rise_least n ts h.1)
rise_least n (t ∷ ts) (inr h) = let k = h.0 in each_more (From n) t ts (λ z. k) (λ u i z. let m = rise_least (suc t.reference) ts h.1 u i z in omega (arith, k, m))

pub rise_pairs : (n : ℕ) (ts : List Touch) → Rise n ts → Pairwise Lesser ts
rise_pairs n [] h = tt
rise_pairs n (t ∷ ts) (inl h) = let e = h.0 in ((λ u i z. absurd (omega (arith, e, z))), rise_pairs n ts h.1)
rise_pairs n (t ∷ ts) (inr h) = ((λ u i y z. let m = rise_least (suc t.reference) ts h.1 u i z in omega (arith, m)), rise_pairs (suc t.reference) ts h.1)

-- what is read
pub reads_rise : (n : ℕ) (seen : List Seen) (ts : List Touch) → Rise (number_behind n seen) ts → Rise n (numbered n seen ++ ts)
reads_rise n [] ts h = h
reads_rise n (cell_seen c content ∷ more) ts h = inr (omega arith, reads_rise (suc n) more ts h)
reads_rise n (index_seen c v ∷ more) ts h = inl (refl, reads_rise n more ts h)

pub reads_alone_rise : (n : ℕ) (seen : List Seen) → Rise n (numbered n seen)
reads_alone_rise n seen = subst (Rise n) (append-nil (numbered n seen)) (reads_rise n seen [] tt)

behind_least : (n : ℕ) (seen : List Seen) → n ≤ number_behind n seen
behind_least n [] = omega arith
behind_least n (cell_seen c content ∷ more) = let m = behind_least (suc n) more in omega (arith, m)
behind_least n (index_seen c v ∷ more) = behind_least n more

-- a touch that a reference makes has a number below this one
abbrev pub Below : ℕ → Touch → Type 0
Below n t = 0 < t.reference → t.reference < n

pub reads_below : (n : ℕ) (seen : List Seen) → Each (Below (number_behind n seen)) (numbered n seen)
reads_below n [] = each_none (Below n)
reads_below n (cell_seen c content ∷ more) =
    let m = behind_least (suc n) more in
    each_more (Below (number_behind (suc n) more)) _ (numbered (suc n) more) (λ z. omega (arith, m)) (reads_below (suc n) more)
reads_below n (index_seen c v ∷ more) = each_more (Below (number_behind n more)) _ (numbered n more) (λ z. absurd (omega (arith, z))) (reads_below n more)

-- an assignment and a PRINT
pub assignment_rises : (seen : List Seen) (w : Stored) → Rise 1 (assignment_touches seen w)
assignment_rises seen w = reads_rise 1 seen (write_touch w.cell (Number w.number) (number_behind 1 seen) ∷ []) (inr (omega arith, tt))

pub print_rises : (seen : List Seen) (line : List ℕ) (s : Store) → Rise 1 (print_touches seen line s)
print_rises seen line s = reads_rise 1 seen _ (inl (refl, inr (omega arith, tt)))

-- a READ
item_rises : (n : ℕ) (left : Data) (v : ℤ) (seen : List Seen) (r : Result Cell ℕ) (rest : ℕ → Cell → Taking) → ((m : ℕ) (c : Cell) → Rise m (rest m c).touches) → Rise n (into_item n left v seen r rest).touches
item_rises n left v seen (Ok c) rest h =
    subst (Rise n) (sym (append_assoc (numbered n seen) (write_touch c (Number v) (number_behind n seen) ∷ []) (rest (suc (number_behind n seen)) c).touches))
    (reads_rise n seen (write_touch c (Number v) (number_behind n seen) ∷ (rest (suc (number_behind n seen)) c).touches) (inr (omega arith, h (suc (number_behind n seen)) c)))
item_rises n left v seen (Err fault) rest h = reads_alone_rise n seen

taken_rises : (n : ℕ) (left : Data) (r : Result Taken ℕ) (next : ℤ → Data → Taking) → ((v : ℤ) (d : Data) → Rise n (next v d).touches) → Rise n (with_taken left r next).touches
taken_rises n left (Ok t) next h = h t.value t.behind
taken_rises n left (Err fault) next h = tt

taking_rises : (g : Names) (items : List ExprTree) (n : ℕ) (d : Data) (s : Store) → Rise n (taking g items n d s).touches
taking_rises g [] n d s = tt
taking_rises g (item ∷ rest) n d s =
    taken_rises n d (next_value_of d) _ (λ v left.
    item_rises n left v (target g item s).seen (target g item s).result (λ m c. taking g rest m left (put c (Number v) s))
    (λ m c. taking_rises g rest m left (put c (Number v) s)))

from_rises : (g : Names) (items : List ExprTree) (r : Result Data ℕ) (s : Store) → Rise 2 (taking_from g items r s).touches
from_rises g items (Ok d) s = taking_rises g items 2 d s
from_rises g items (Err fault) s = tt

pub read_rises : (g : Names) (items : List ExprTree) (s : Store) → Rise 1 (reading_touches (reading g items s) s)
read_rises g items s = inl (refl, inr (omega arith, from_rises g items (begun (lines_in (s cells.In))) s))

-- the exit of a DO
inner_rise : (n : ℕ) (scope : Scope) (xs : List (List ℕ)) → Rise n (undefined_all scope xs)
inner_rise n scope [] = tt
inner_rise n scope (x ∷ xs) = inl (refl, inner_rise n scope xs)

private_rise : (n : ℕ) (scope : Scope) (xs : List (List ℕ)) (ts : List Touch) → ((m : ℕ) → Rise m ts) → Rise n (undefined_by scope n xs ++ ts)
private_rise n scope [] ts h = h n
private_rise n scope (x ∷ xs) ts h = inr (omega arith, private_rise (suc n) scope xs ts h)

pub exit_rises : (e : Entered) (scope : Scope) → Rise e.behind_bounds (exit_touches e scope)
exit_rises e scope = inl (refl, private_rise e.behind_bounds scope e.head.private (undefined_all scope e.inner) (λ m. inner_rise m scope e.inner))

-- a touch that writes
abbrev Writes : Touch → Type 0
Writes t = is_write t.manner ≡ true

pub exit_written : (e : Entered) (scope : Scope) → Each (λ (t : Touch). is_write t.manner ≡ true) (exit_touches e scope)
exit_written e scope =
    each_more Writes _ (undefined_by scope e.behind_bounds e.head.private ++ undefined_all scope e.inner) refl
    (each_append Writes (undefined_by scope e.behind_bounds e.head.private) (undefined_all scope e.inner) (private_written e.behind_bounds e.head.private) (inner_written e.inner))
  where
    private_written : (n : ℕ) (xs : List (List ℕ)) → Each Writes (undefined_by scope n xs)
    private_written n [] = each_none Writes
    private_written n (x ∷ xs) = each_more Writes _ (undefined_by scope (suc n) xs) refl (private_written (suc n) xs)

    inner_written : (xs : List (List ℕ)) → Each Writes (undefined_all scope xs)
    inner_written [] = each_none Writes
    inner_written (x ∷ xs) = each_more Writes _ (undefined_all scope xs) refl (inner_written xs)

-- where an iteration is left, there is no exit
pub none_left : (n : ℕ) (e : Entered) (scope : Scope) → exit_when_none (suc n) e scope ≡ []
none_left n e scope = ap (λ (b : Bool). if b then exit_touches e scope else []) (later n)
  where
    later : (n : ℕ) → eqb (suc n) 0 ≡ false
    later n = grind (arith, eqb-true)
