-- Private copies are the same for the code where they are so for the definition.
use Rattle.std.proofs.Common.{◌≡◌, ℕ, ℤ, List, length, Bool, true, false, ◌&&◌, Option, Some, None, if◌then◌else◌, refl, sym, ap, ◌∙◌}
use Rattle.std.specs.Prelude.{is_some, IsTrue}
use Rattle.std.specs.Option.{option_flatten}
use mathlib.Core.Path.{fun_ext}
use Rattle.std.proofs.lemmas.Bool.{and_parts}
use Rattle.ped_store.specs.Cells.{Cell, Scalar, Element, Private, In, Out, Iteration, same_iteration, same_cell}
use Rattle.ped_store.specs.Stores.{Lines, put}
use Rattle.ped_store.specs.Slots.{content_of, held_at, index_of, slot_of}
use Rattle.ped_store.specs.Memories.{with_content, standing}
use Rattle.ped_store.specs.IterationLaws.{iterations_decide}
use Rattle.std.specs.Map.{lookup}
use Rattle.std.specs.Cmp.Lexicographic.{pointwise}
use Rattle.ped_base.specs.Lists.{is_same_text, has_some}
use Rattle.ped_store.specs.declared.copies.PrivateCopy.{PrivateCopy}
use Rattle.ped_store.specs.contracts.copies.PrivateCopyPartialEq.TheImpl as code
use Rattle.ped_store.specs.Keeping.{Kept, copied, same_copied, copy_of, memory_of, cells_of, stands_in, bounds_in, has_rank, IsCopyPut}
use Rattle.ped_base.proofs.NameEquality.{name_same, same_is}

pub copies_same : (a b : PrivateCopy) → (code.eq-value).it a b ≡ same_copied a b
copies_same a b = λ i. name_same a.name b.name i && pointwise same_iteration a.iterations b.iterations

pub copy_found : {X : Type 0} (a : PrivateCopy) (es : List (PrivateCopy × X)) → lookup ((code.eq-value).it a) es ≡ lookup (same_copied a) es
copy_found a es = λ i. lookup (λ b. copies_same a b i) es

same_iterations : (xs ys : List Iteration) → pointwise same_iteration xs ys ≡ true → xs ≡ ys
same_iterations xs ys h = (iterations_decide xs ys).0 h

content_through : (b : Bool) (known o : Option (Option ℤ)) → content_of (option_flatten (if b then known else o)) ≡ (if b then content_of (option_flatten known) else content_of (option_flatten o))
content_through true known o = refl
content_through false known o = refl

standing_through : (b : Bool) (known o : Option (Option ℤ)) → is_some (if b then known else o) ≡ (if b then is_some known else is_some o)
standing_through true known o = refl
standing_through false known o = refl

-- where no more than a copy has changed, no more than its cell has
pub copy_known_is : (x : List ℕ) (xs : List Iteration) (known : Option (Option ℤ)) (before after : Kept) → IsCopyPut (copied x xs) known before after
    → memory_of after ≡ record (memory_of before) { cells = put (Private x xs) (content_of (option_flatten known)) (cells_of before); stands = standing (Private x xs) (is_some known) (stands_in before) }
copy_known_is x xs known before after p = λ z. record {
  cells = fun_ext each z;
  stands = fun_ext stand z;
  bounds = λ y. bounds_in (slot_of (p.slots z) y);
  input = p.input z;
}
  where
    each : (d : Cell) → cells_of after d ≡ put (Private x xs) (content_of (option_flatten known)) (cells_of before) d
    each (Scalar y) = λ z. held_at (p.held z) (index_of (p.slots z) (Scalar y))
    each (Element y js) = λ z. held_at (p.held z) (index_of (p.slots z) (Element y js))
    each (Private y ys) =
        ap (λ o. content_of (option_flatten o)) (p.copies (copied y ys))
        ∙ content_through (same_copied (copied x xs) (copied y ys)) known (copy_of before.copies y ys)
    each In = λ z. Lines (p.input z).lines
    each Out = λ z. Lines (p.output z)

    stand : (d : Cell) → stands_in after d ≡ standing (Private x xs) (is_some known) (stands_in before) d
    stand (Scalar y) = λ z. has_rank 0 (slot_of (p.slots z) y)
    stand (Element y js) = λ z. has_some js && has_rank (length js) (slot_of (p.slots z) y)
    stand (Private y ys) =
        ap is_some (p.copies (copied y ys))
        ∙ standing_through (same_copied (copied x xs) (copied y ys)) known (copy_of before.copies y ys)
    stand In = refl
    stand Out = refl

-- a write of a copy that stands is a write of its cell
pub copy_put_is : (x : List ℕ) (xs : List Iteration) (v : Option ℤ) (before after : Kept) → IsCopyPut (copied x xs) (Some v) before after → is_some (copy_of before.copies x xs) ≡ true
    → memory_of after ≡ with_content (Private x xs) (content_of v) (memory_of before)
copy_put_is x xs v before after p there =
    copy_known_is x xs (Some v) before after p ∙ (λ z. record (memory_of before) { cells = put (Private x xs) (content_of v) (cells_of before); stands = fun_ext stand z })
  where
    kept : (y : List ℕ) (ys : List Iteration) (b : Bool) → same_cell (Private x xs) (Private y ys) ≡ b → (if b then true else is_some (copy_of before.copies y ys)) ≡ is_some (copy_of before.copies y ys)
    kept y ys true e =
        let q = and_parts (is_same_text x y) (pointwise same_iteration xs ys) e in
        let f = same_is x y q.0 in
        let g = same_iterations xs ys q.1 in
        sym there ∙ (λ z. is_some (copy_of before.copies (f z) (g z)))
    kept y ys false e = refl

    stand : (d : Cell) → standing (Private x xs) true (stands_in before) d ≡ stands_in before d
    stand (Scalar y) = refl
    stand (Element y js) = refl
    stand (Private y ys) = kept y ys (same_cell (Private x xs) (Private y ys)) refl
    stand In = refl
    stand Out = refl

pub gone : {X : Type 0} (o : Option X) → IsTrue (is_some o) → o ≡ None → ⊥
gone None h e = absurd cc
gone (Some x) h e = absurd cc
