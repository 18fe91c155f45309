-- Names that don't occur in a program.
use Rattle.std.proofs.Common.{◌≡◌, ℕ, suc, ◌+◌, ◌-◌, ◌^◌, ◌<◌, ◌≤◌, Bool, true, false, ◌&&◌, List, [], ◌∷◌, ◌++◌, length, Some, None, is_some, refl, ap, arith, if◌then◌else◌}
use Rattle.std.specs.Prelude.{codes}
use Rattle.std.specs.List.{list_all}
use Rattle.std.specs.Fmt.{decimal}
use Rattle.std.specs.Str.Parse.{AllDigits}
use Rattle.std.proofs.lemmas.Bool.{le-leb, or_right}
use Rattle.std.proofs.lemmas.Str.Parse.{digit_from_value}
use Rattle.std.proofs.lemmas.Fmt.{decimal_is_IsNumeral_wide, length-decimal-le_wide}
use Rattle.ped_base.specs.Letters.{is_letter, is_digit, is_alphanumeric, name_of}
use Rattle.ped_base.specs.Lists.{is_among}
use Rattle.ped_tree.specs.Tree.{ProgramTree}
use Rattle.ped_loop_runs.specs.ped_symbols.specs.declared.symbols.Kind.{Kind}
use Rattle.ped_loop_runs.specs.ped_symbols.specs.Kinds.{kind_of, kind_in, names_of}
use Rattle.ped_rules.specs.declared.fresh.NewName.{NewName}
use Rattle.ped_rules.specs.declared.fresh.NewName.TheVariants.{Array, Variable}
use Rattle.ped_rules.specs.CodeFresh.{letters_of}
use Rattle.ped_rules.specs.Fresh.{occurs, first_free, numbered_names, most_numbered}

kind_there : (b : Bool) (k : Kind) → is_some (if b then Some k else None) ≡ b
kind_there true k = refl
kind_there false k = refl

-- a name has a kind where it occurs
pub kind_occurs : (t : ProgramTree) (x : List ℕ) → is_some (kind_in t x) ≡ is_among x (names_of t)
kind_occurs t x = kind_there (is_among x (names_of t)) (kind_of t x)

-- the numbers end with the last of 29 digits
pub most_is : most_numbered + 1 ≡ 10 ^ 29
unfolding most_numbered
most_is = refl

-- the next name, or those behind it
pub next_free : (letters : List ℕ) (t : ProgramTree) (n : ℕ) → n < most_numbered + 1
    → first_free t (numbered_names letters n (most_numbered + 1 - n)) ≡ (if occurs t (letters ++ decimal n) then first_free t (numbered_names letters (n + 1) (most_numbered + 1 - (n + 1))) else Some (letters ++ decimal n))
next_free letters t n h =
    let e : most_numbered + 1 - n ≡ suc (most_numbered + 1 - (n + 1)) = omega (arith, h) in
    ap (λ (count : ℕ). first_free t (numbered_names letters n count)) e

-- no name is left at the end
pub none_free : (letters : List ℕ) (t : ProgramTree) (n : ℕ) → most_numbered + 1 - n ≡ 0 → first_free t (numbered_names letters n (most_numbered + 1 - n)) ≡ None
none_free letters t n h = ap (λ (count : ℕ). first_free t (numbered_names letters n count)) h

-- digits are letters or digits
digits_fit : (ds : List ℕ) → AllDigits 10 ds → list_all is_alphanumeric ds ≡ true
digits_fit [] all = refl
digits_fit (c ∷ cs) all =
    let within = digit_from_value c all.0 in
    let digit : is_digit c ≡ true = λ i. le-leb 48 c (omega (arith, within)) i && le-leb c 57 (omega (arith, within)) i in
    λ i. or_right (is_letter c) (is_digit c) digit i && digits_fit cs all.1 i

-- the letters with a number of at most 29 digits are a name
pub numbered_name : (kind : NewName) (n : ℕ) → n < 10 ^ 29 → name_of (letters_of kind ++ decimal n) ≡ Some (letters_of kind ++ decimal n)
numbered_name kind n h = by kind
  where
    digits : list_all is_alphanumeric (decimal n) ≡ true
    digits = digits_fit (decimal n) (decimal_is_IsNumeral_wide n (omega (arith, h))).0.1

    short : length (decimal n) ≤ 29
    short = length-decimal-le_wide 29 n (omega arith) (omega (arith, h)) (omega (arith, h))

    by : (k : NewName) → name_of (letters_of k ++ decimal n) ≡ Some (letters_of k ++ decimal n)
    by Array = λ i. if digits i && le-leb (length (codes "KX" ++ decimal n)) 31 (omega (arith, short)) i then Some (codes "KX" ++ decimal n) else None
    by Variable = λ i. if digits i && le-leb (length (codes "IS" ++ decimal n)) 31 (omega (arith, short)) i then Some (codes "IS" ++ decimal n) else None
