-- Private copies that are made, one after the other.
use Rattle.std.proofs.Common.{◌≡◌, ℕ, ◌+◌, ◌<◌, ℤ, List, ◌∷◌, length, get_or, drop, Bool, true, false, ◌&&◌, Option, Some, None, Result, Ok, Err, if◌then◌else◌, refl, sym, ap, ◌∙◌, add-one, drop-cons}
use mathlib.Core.Path.{fun_ext}
use Rattle.std.proofs.lemmas.Bool.{and_parts}
use Rattle.std.specs.Prelude.{is_some, OnOk, OnErr}
use Rattle.std.specs.List.{list_all}
use Rattle.std.specs.Cmp.Lexicographic.{pointwise}
use Rattle.ped_base.specs.Lists.{is_same_text}
use Rattle.ped_base.proofs.NameEquality.{same_is}
use Rattle.std.specs.Option.{option_flatten}
use Rattle.ped_store.specs.Cells.{Cell, Scalar, Element, Private, In, Out, Iteration, same_iteration, same_cell}
use Rattle.ped_store.specs.Stores.{Undefined, Store, put, number_read}
use Rattle.ped_store.specs.Memories.{Memory, with_copy, standing, got}
use Rattle.ped_store.specs.Keeping.{Kept, copy_of, cells_of, stands_in, memory_of}
use Rattle.ped_store.specs.Slots.{content_of}
use Rattle.ped_store.specs.IterationLaws.{iterations_decide}
use Rattle.ped_interleavings.specs.ped_eval.specs.Agreement.{is_copy}
use Rattle.ped_interleavings.specs.ped_eval.proofs.Copies.{own_copy}
use Rattle.ped_machine.specs.Doing.{HasRoom}
use Rattle.ped_machine.proofs.Growing.{unchanged}

pub next_drop : {X : Type 0} (xs : List X) (i : ℕ) (d : X) → i < length xs → drop i xs ≡ get_or xs i d ∷ drop (i + 1) xs
next_drop xs i d h = drop-cons xs i d h ∙ ap (λ n. get_or xs i d ∷ drop n xs) (sym (add-one i))

-- what all of the names have, one has, and those behind it
pub one_of_all : {X : Type 0} (p : X → Bool) (xs : List X) (i : ℕ) (x : X) → i < length xs → x ≡ get_or xs i x → list_all p (drop i xs) ≡ true → (p x ≡ true) × (list_all p (drop (i + 1) xs) ≡ true)
one_of_all p xs i x h e all =
    let k = and_parts (p (get_or xs i x)) (list_all p (drop (i + 1) xs)) (ap (list_all p) (sym (next_drop xs i x h)) ∙ all) in
    (ap p e ∙ k.0, k.1)

-- and what one has and those behind it, all have
pub all_of_one : {X : Type 0} (p : X → Bool) (xs : List X) (i : ℕ) (x : X) → i < length xs → x ≡ get_or xs i x → p x ≡ true → list_all p (drop (i + 1) xs) ≡ true → list_all p (drop i xs) ≡ true
all_of_one p xs i x h e one rest =
    ap (list_all p) (next_drop xs i x h) ∙ (λ j. (ap p (sym e) ∙ one) j && rest j)

-- what held nothing holds nothing
pub put_same : (x : List ℕ) (path : List Iteration) (s : Store) → s (Private x path) ≡ Undefined → (d : Cell) → put (Private x path) Undefined s d ≡ s d
put_same x path s h (Scalar y) = refl
put_same x path s h (Element y js) = refl
put_same x path s h In = refl
put_same x path s h Out = refl
put_same x path s h (Private y q) = by (is_same_text x y && pointwise same_iteration path q) refl
  where
    by : (b : Bool) → (is_same_text x y && pointwise same_iteration path q) ≡ b → (if b then Undefined else s (Private y q)) ≡ s (Private y q)
    by true e =
        let p = and_parts (is_same_text x y) (pointwise same_iteration path q) e in
        sym ((λ i. s (Private (sym (same_is x y p.0) i) (sym ((iterations_decide path q).0 p.1) i))) ∙ h)
    by false e = refl

-- a copy that can be read stands
pub read_stands : (s : Kept) (c : Cell) (n : ℤ) → is_copy c ≡ true → got (memory_of s) c ≡ Ok n → stands_in s c ≡ true
read_stands s (Scalar y) n h e = absurd cc
read_stands s (Element y js) n h e = absurd cc
read_stands s In n h e = absurd cc
read_stands s Out n h e = absurd cc
read_stands s (Private x path) n h e = by (copy_of s.copies x path) refl
  where
    by : (o : Option (Option ℤ)) → copy_of s.copies x path ≡ o → is_some (copy_of s.copies x path) ≡ true
    by None k = absurd (let w : ◌≡◌ {A = Result ℤ ℕ} (Err 1) (Ok n) = sym (λ i. number_read (content_of (option_flatten (k i)))) ∙ e in cc)
    by (Some o) k = ap is_some k

-- one that can't is undefined
pub unread_undefined : (s : Kept) (c : Cell) (f : ℕ) → is_copy c ≡ true → got (memory_of s) c ≡ Err f → cells_of s c ≡ Undefined
unread_undefined s (Scalar y) f h e = absurd cc
unread_undefined s (Element y js) f h e = absurd cc
unread_undefined s In f h e = absurd cc
unread_undefined s Out f h e = absurd cc
unread_undefined s (Private x path) f h e = by (copy_of s.copies x path) refl
  where
    by : (o : Option (Option ℤ)) → copy_of s.copies x path ≡ o → content_of (option_flatten (copy_of s.copies x path)) ≡ Undefined
    by None k = λ i. content_of (option_flatten (k i))
    by (Some None) k = λ i. content_of (option_flatten (k i))
    by (Some (Some n)) k = absurd (let w : ◌≡◌ {A = Result ℤ ℕ} (Ok n) (Err f) = sym (λ i. number_read (content_of (option_flatten (k i)))) ∙ e in cc)

standing_more : (c d : Cell) (stands : Cell → Bool) → stands d ≡ true → standing c true stands d ≡ true
standing_more c d stands h = by (same_cell c d)
  where
    by : (b : Bool) → (if b then true else stands d) ≡ true
    by true = refl
    by false = h

-- an undefined copy that is made changes no cell
pub made_room : (m new : Memory) (c : Cell) → is_copy c ≡ true → m.cells c ≡ Undefined → new ≡ with_copy c m → HasRoom m new
made_room m new (Scalar y) h u e = absurd cc
made_room m new (Element y js) h u e = absurd cc
made_room m new In h u e = absurd cc
made_room m new Out h u e = absurd cc
made_room m new (Private x path) h u e = record {
  cells = (λ i. (e i).cells) ∙ fun_ext (put_same x path m.cells u);
  grown = record {
    bounds = λ i. (e i).bounds;
    stands = λ d k. (λ i. (e i).stands d) ∙ standing_more (Private x path) d m.stands k;
  };
}

pub made_stands : (m new : Memory) (c : Cell) → is_copy c ≡ true → new ≡ with_copy c m → new.stands c ≡ true
made_stands m new (Scalar y) h e = absurd cc
made_stands m new (Element y js) h e = absurd cc
made_stands m new In h e = absurd cc
made_stands m new Out h e = absurd cc
made_stands m new (Private x path) h e = (λ i. (e i).stands (Private x path)) ∙ ap (λ b. if b then true else m.stands (Private x path)) (own_copy x path)

-- a copy that could not be read is made, or there is no memory for it
pub copy_room : {A E : Type 0} (r : Result A E) (old new : Kept) (c : Cell) (f : ℕ) → is_copy c ≡ true → got (memory_of old) c ≡ Err f → OnOk r (memory_of new ≡ with_copy c (memory_of old)) → OnErr r (new ≡ old)
    → HasRoom (memory_of old) (memory_of new)
copy_room (Ok a) old new c f h e made kept = made_room (memory_of old) (memory_of new) c h (unread_undefined old c f h e) made
copy_room (Err x) old new c f h e made kept = unchanged (memory_of old) (memory_of new) (ap memory_of kept)

pub copy_stands : {A E : Type 0} (r : Result A E) (m new : Memory) (c d : Cell) → c ≡ d → is_copy c ≡ true → OnOk r (new ≡ with_copy c m) → OnOk r (new.stands d ≡ true)
copy_stands (Ok a) m new c d e h made = ap new.stands (sym e) ∙ made_stands m new c h made
copy_stands (Err x) m new c d e h made = tt
