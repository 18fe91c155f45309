-- The lines of a text in which each line has a newline behind it.
use Rattle.std.proofs.Common.{◌≡◌, ℕ, suc, ◌-◌, Bool, true, false, if◌then◌else◌, List, [], ◌∷◌, ◌++◌, length, take, get_or, refl, ap, ◌∙◌, append_assoc, eqb, arith}
use Rattle.std.specs.List.{AllByRecursion, list_any, list_all, flat_map, slice_split, onto_first}
use Rattle.std.specs.Str.Lines.{lines, lines_of_parts, strip_carriage_return}
use Rattle.std.proofs.lemmas.List.Splits.{slice_split-cons_no, length-slice_split}
use Rattle.ped_base.proofs.FirstLines.{more_parts}
use Rattle.ped_tree.specs.Grammar.Characters.{is_printable}
use Rattle.ped_lines.proofs.PrintedLaws.Bytes.{neither, both, none_of, printable_newline, printable_return}

-- the last of c and what follows it
abbrev pub last_of : ℕ → List ℕ → ℕ
last_of c [] = c
last_of c (d ∷ ds) = last_of d ds

last_is : (c : ℕ) (cs : List ℕ) → get_or (c ∷ cs) (length (c ∷ cs) - 1) 0 ≡ last_of c cs
last_is c [] = refl
last_is c (d ∷ ds) =
    let place : length (c ∷ d ∷ ds) - 1 ≡ suc (length (d ∷ ds) - 1) = omega arith in
    ap (λ (n : ℕ). get_or (c ∷ d ∷ ds) n 0) place ∙ last_is d ds

-- a line without a newline, and without a carriage return at its end
pub record IsLine (line : List ℕ) : Type 0 where
  pub one : list_any (λ c. eqb c 10) line ≡ false
  pub ended : strip_carriage_return line ≡ line

pub ends : (c : ℕ) (cs : List ℕ) → eqb (last_of c cs) 13 ≡ false → strip_carriage_return (c ∷ cs) ≡ c ∷ cs
ends c cs h = ap (λ (b : Bool). if b then take (length (c ∷ cs) - 1) (c ∷ cs) else c ∷ cs) (ap (λ (n : ℕ). eqb n 13) (last_is c cs) ∙ h)

pub all_last : (p : ℕ → Bool) (c : ℕ) (cs : List ℕ) → list_all p (c ∷ cs) ≡ true → p (last_of c cs) ≡ true
all_last p c [] h = (both (p c) true h).0
all_last p c (d ∷ ds) h = all_last p d ds (both (p c) (list_all p (d ∷ ds)) h).1

-- bytes that can be printed are a line
pub printable_line : (line : List ℕ) → list_all is_printable line ≡ true → IsLine line
printable_line [] h = record { one = refl; ended = refl }
printable_line (c ∷ cs) h = record {
  one = none_of is_printable (λ c. eqb c 10) printable_newline (c ∷ cs) h;
  ended = ends c cs (printable_return (last_of c cs) (all_last is_printable c cs h));
}

split_first : (line rest : List ℕ) → list_any (λ c. eqb c 10) line ≡ false → slice_split (λ c. eqb c 10) (line ++ 10 ∷ rest) ≡ line ∷ slice_split (λ c. eqb c 10) rest
split_first [] rest h = refl
split_first (c ∷ cs) rest h =
    let parts = neither (eqb c 10) (list_any (λ c. eqb c 10) cs) h in
    slice_split-cons_no (λ c. eqb c 10) c (cs ++ 10 ∷ rest) parts.0 ∙ ap (onto_first c) (split_first cs rest parts.1)

line_first : (line rest : List ℕ) → IsLine line → lines (line ++ 10 ∷ rest) ≡ line ∷ lines rest
line_first line rest h =
    let p : ℕ → Bool = λ c. eqb c 10 in
    ap lines_of_parts (split_first line rest h.one)
    ∙ more_parts line (slice_split p rest) (omega (arith, length-slice_split p rest))
    ∙ ap (λ (l : List ℕ). l ∷ lines rest) h.ended

-- the lines are those that were written
pub lines_written : (ls : List (List ℕ)) → AllByRecursion IsLine ls → lines (flat_map (λ line. line ++ 10 ∷ []) ls) ≡ ls
lines_written [] h = refl
lines_written (l ∷ ls) h =
    ap lines (append_assoc l (10 ∷ []) (flat_map (λ line. line ++ 10 ∷ []) ls))
    ∙ line_first l (flat_map (λ line. line ++ 10 ∷ []) ls) h.0
    ∙ ap (λ (x : List (List ℕ)). l ∷ x) (lines_written ls h.1)
