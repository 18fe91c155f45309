-- Where the first file of a name stands.
use Rattle.std.proofs.Common.{◌≡◌, ◌≢◌, ◌<◌, ◌≤◌, ℕ, Bool, true, false, not, List, [], Option, Some, None, IsSome, length, cond, nat_lt, position, unwrap_or, option_map, get_or, refl, sym, ◌∙◌, ap, subst, inl, inr, arith}
use Rattle.std.specs.List.{position_or_len}
use Rattle.std.specs.Cmp.Lexicographic.{same_text}
use Rattle.std.proofs.lemmas.Bool.{cases_lt}
use Rattle.std.proofs.lemmas.Bool.Decides.{nat_tests}
use Rattle.std.proofs.lemmas.List.Folds.{find_at}
use Rattle.std.proofs.lemmas.List.Sums.{prefix_len-le-length, prefix_len_stops}
use Rattle.std.proofs.lemmas.Option.{same_Some, slice_get_past}
use Rattle.ped_io.specs.Outside.{Contents, file_named, IsHeld}
use Rattle.ped_base.specs.Lists.{is_same_text}
use Rattle.ped_io.specs.Shelves.{place_of}

not_false : (b : Bool) → not b ≡ false → b ≡ true
not_false true e = refl
not_false false e = absurd (cc)

position_at : (test : Bool) (n len : ℕ) → n ≤ len → (test ≡ false → len ≤ n) →
    unwrap_or (cond test (Some n) None) len ≡ n
position_at true n len inside past = refl
position_at false n len inside past = omega (arith, past refl)

-- the first place, or the length where there is none
pub unwrap_or-position : {X : Type 0} (p : X → Bool) (xs : List X) →
    unwrap_or (position p xs) (length xs) ≡ position_or_len p xs
unwrap_or-position p xs =
    let n : ℕ = position_or_len p xs in
    position_at (nat_lt n (length xs)) n (length xs) (prefix_len-le-length (λ x. not (p x)) xs)
    (λ past. grind (arith, nat_tests))

-- where a name is held, the first file of that name has it
name_at_place : (files : List (List ℕ × List ℕ)) (name : List ℕ) (d : List ℕ × List ℕ) →
    place_of files name < length files → (get_or files (place_of files name) d).0 ≡ name
name_at_place files name d inside =
    let other_name = λ (file : List ℕ × List ℕ). not (is_same_text file.0 name) in
    same_text _ _ (sym (not_false _ (prefix_len_stops other_name files d inside)))

-- two names, of which the first is held, have two places
other_place : (files : List (List ℕ × List ℕ)) (one other : List ℕ) → one ≢ other →
    place_of files one < length files → place_of files one ≢ place_of files other
other_place files one other differ inside same =
    let d : List ℕ × List ℕ = ([], []) in
    let inside_too : place_of files other < length files =
    subst (λ (n : ℕ). n < length files) same inside in
    differ
    (sym (name_at_place files one d inside)
    ∙ ap (λ n. (get_or files n d).0) same
    ∙ name_at_place files other d inside_too)

-- no name is held whose place is past the end
not_held : (files : List (List ℕ × List ℕ)) (name : List ℕ) → length files ≤ place_of files name →
    file_named files name ≡ None
not_held files name past =
    find_at (λ file. is_same_text file.0 name) files
    ∙ slice_get_past files (place_of files name) past

none_held : (contents : Contents) (name : List ℕ) → file_named contents.held name ≡ None →
    IsHeld contents name → ⊥
none_held contents name none held =
    let HasContent = λ (file : Option (List ℕ × List ℕ)). IsSome (option_map (λ f. f.1) file) in
    let no : IsSome {T = List ℕ} None = subst HasContent none held in
    cc

-- a name that is held has a place among the files
place_of-held : (contents : Contents) (name : List ℕ) → IsHeld contents name →
    place_of contents.held name < length contents.held
place_of-held contents name held =
    elim (cases_lt (place_of contents.held name) (length contents.held)) [
      | inl inside ↦ inside
      | inr past ↦ absurd (none_held contents name (not_held contents.held name past) held)
    ]

-- a name that is told has a place of its own
pub own_place : (contents files : Contents) (one other : List ℕ) → Some contents ≡ Some files →
    one ≢ other → IsHeld files one →
    (place_of contents.held one < length contents.held)
    × (place_of contents.held one ≢ place_of contents.held other)
own_place contents files one other told differ held =
    let held_here : IsHeld contents one =
    subst (λ (c : Contents). IsHeld c one) (sym (same_Some _ _ told)) held in
    let inside = place_of-held contents one held_here in
    (inside, other_place contents.held one other differ inside)
