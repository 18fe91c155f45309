-- Blanks before and behind the characters of a statement mean nothing.
use Rattle.std.proofs.Common.{◌≡◌, ℕ, suc, zero, ◌<◌, Bool, true, false, if◌then◌else◌, List, [], ◌∷◌, ◌++◌, take, replicate, refl, ap, sym, ◌∙◌, append_assoc, arith}
use Rattle.std.specs.Prelude.{not, ◌||◌, ◌&&◌}
use Rattle.std.specs.List.{list_all}
use Rattle.std.proofs.lemmas.List.{append-nil}
use Rattle.std.proofs.lemmas.Bool.{or_from}
use Rattle.ped_tree.specs.Grammar.Columns.{is_blank}
use Rattle.ped_tree.specs.Grammar.Characters.{is_character, is_printable, is_quoted, is_bad, has_bad, kept, text_behind, text_of}
use Rattle.ped_lines.proofs.Quoting.{quoted_more, quoted_alike, text_append, has_bad_alike, has_bad_append}
use Rattle.ped_lines.proofs.Constants.{text_behind_blanks}
use Rattle.ped_lines.specs.Printed.Fitting.{begins_at_once}

pub quoted_blanks : (m : ℕ) (before : List ℕ) → is_quoted (before ++ replicate m 32) ≡ is_quoted before
quoted_blanks zero before = ap is_quoted (append-nil before)
quoted_blanks (suc m) before =
    ap is_quoted (sym (append_assoc before (32 ∷ []) (replicate m 32)))
    ∙ quoted_blanks m (before ++ 32 ∷ [])
    ∙ quoted_more before 32

kept_blank : (before : List ℕ) → is_quoted before ≡ false → kept before 32 ≡ []
unfolding kept
kept_blank before h = rw h refl

pub text_blanks : (m : ℕ) (before : List ℕ) → is_quoted before ≡ false → text_behind before (replicate m 32) ≡ []
text_blanks zero before h = refl
text_blanks (suc m) before h =
    λ i. kept_blank before h i ++ text_blanks m (before ++ 32 ∷ []) (quoted_more before 32 ∙ h) i

blank_either : (q : Bool) → not (if q then is_printable 32 else is_character 32) ≡ false
blank_either true = refl
blank_either false = refl

bad_blank : (before : List ℕ) → is_bad before 32 ≡ false
unfolding is_bad
bad_blank before = blank_either (is_quoted before)

pub bad_blanks : (m : ℕ) (before : List ℕ) → has_bad before (replicate m 32) ≡ false
bad_blanks zero before = refl
bad_blanks (suc m) before = or_from (is_bad before 32) (has_bad (before ++ 32 ∷ []) (replicate m 32)) (bad_blank before) (bad_blanks m (before ++ 32 ∷ []))

-- blanks before a text

pub quoted_behind : (m : ℕ) (text : List ℕ) → is_quoted (replicate m 32 ++ text) ≡ is_quoted text
quoted_behind m text = quoted_alike (replicate m 32) [] text (quoted_blanks m [])

none_open : is_quoted [] ≡ false
unfolding is_quoted
none_open = refl

pub text_indented : (m : ℕ) (text : List ℕ) → text_of (replicate m 32 ++ text) ≡ text_of text
text_indented m text =
    text_append [] (replicate m 32) text
    ∙ ap (λ (t : List ℕ). t ++ text_behind (replicate m 32) text) (text_blanks m [] none_open)
    ∙ text_behind_blanks m text

pub bad_indented : (m : ℕ) (text : List ℕ) → has_bad [] (replicate m 32 ++ text) ≡ has_bad [] text
bad_indented m text =
    has_bad_append [] (replicate m 32) text
    ∙ ap (λ (b : Bool). b || has_bad (replicate m 32) text) (bad_blanks m [])
    ∙ has_bad_alike (replicate m 32) [] text (quoted_blanks m [])

-- and behind characters that leave no constant open

pub text_filled : (cs : List ℕ) (m : ℕ) → is_quoted cs ≡ false → text_of (cs ++ replicate m 32) ≡ text_of cs
text_filled cs m h =
    text_append [] cs (replicate m 32)
    ∙ ap (λ (t : List ℕ). text_of cs ++ t) (text_blanks m cs h)
    ∙ append-nil (text_of cs)

pub bad_filled : (cs : List ℕ) (m : ℕ) → has_bad [] cs ≡ false → has_bad [] (cs ++ replicate m 32) ≡ false
bad_filled cs m h = has_bad_append [] cs (replicate m 32) ∙ or_from (has_bad [] cs) (has_bad cs (replicate m 32)) h (bad_blanks m cs)

-- a text that begins at once is seen behind fewer blanks than are looked at
pub seen : (m n : ℕ) (text : List ℕ) → m < n → begins_at_once text ≡ true → list_all is_blank (take n (replicate m 32 ++ text)) ≡ false
seen m zero text l h = absurd (omega arith)
seen zero (suc n) [] l h = absurd cc
seen zero (suc n) (c ∷ cs) l h = opposite (is_blank c) (list_all is_blank (take n cs)) h where
  opposite : (a b : Bool) → not a ≡ true → (a && b) ≡ false
  opposite true b h = absurd cc
  opposite false b h = refl
seen (suc m) (suc n) text l h = seen m n text (omega arith) h
