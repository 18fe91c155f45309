-- Where the next character stands to the constants before it, and what follows from that alone.
use Rattle.std.proofs.Common.{◌≡◌, inl, inr, ℕ, zero, suc, Bool, true, false, if◌then◌else◌, List, [], ◌∷◌, ◌++◌, replicate, refl, ap, sym, ◌∙◌, append_assoc, eqb, arith}
use Rattle.std.specs.Prelude.{not, ◌&&◌, ◌||◌}
use Rattle.std.specs.Char.{to_ascii_uppercase}
use Rattle.std.specs.List.{list_all}
use Rattle.std.proofs.lemmas.Bool.{eqb-true, or_cases, or_left, or_right, or_from, and_parts, and_from, and_right}
use Rattle.std.proofs.lemmas.List.{append-nil}
use Rattle.std.proofs.lemmas.List.Folds.{list_all-append}
use Rattle.ped_base.specs.Lists.{has_some}
use Rattle.ped_tree.specs.Grammar.Columns.{is_blank}
use Rattle.ped_tree.specs.Grammar.Characters.{is_character, is_printable, is_quoted, is_bad, ends_apart, kept, text_behind, text_of}
use Rattle.ped_lines.specs.declared.characters.Quoting.{Quoting}
use Rattle.ped_lines.specs.declared.characters.Quoting.TheVariants.{Inside, Closed, Apart, Outside}
use Rattle.ped_lines.specs.Quoting.{is_inside, quoting_by, quoting_of, front_of}
use Rattle.ped_lines.proofs.Quoting.{quoted_more}

-- blanks behind an apostrophe

no_blanks : (before rest : List ℕ) → list_all is_blank rest ≡ false → list_all is_blank (before ++ rest) ≡ false
no_blanks [] rest h = h
no_blanks (c ∷ before) rest h = and_right (is_blank c) (list_all is_blank (before ++ rest)) (no_blanks before rest h)

-- what ends in other characters than an apostrophe and blanks doesn't end apart, whatever stands before it
pub not_apart : (before rest : List ℕ) → list_all is_blank rest ≡ false → ends_apart rest ≡ false → ends_apart (before ++ rest) ≡ false
not_apart [] rest h k = k
not_apart (c ∷ before) rest h k =
    let cs = before ++ rest in
    or_from (eqb c 39 && has_some cs && list_all is_blank cs) (ends_apart cs) (neither (eqb c 39) (has_some cs) (list_all is_blank cs) (no_blanks before rest h)) (not_apart before rest h k) where
      neither : (x y z : Bool) → z ≡ false → (x && y && z) ≡ false
      neither true true z h = h
      neither true false z h = refl
      neither false y z h = refl

found_apart : (before : List ℕ) → ends_apart (before ++ 39 ∷ 32 ∷ []) ≡ true
found_apart [] = refl
found_apart (c ∷ before) =
    let cs = before ++ 39 ∷ 32 ∷ [] in
    or_right (eqb c 39 && has_some cs && list_all is_blank cs) (ends_apart cs) (found_apart before)

-- one blank more
with_blank : (before : List ℕ) → ends_apart (before ++ 32 ∷ 32 ∷ []) ≡ ends_apart (before ++ 32 ∷ [])
with_blank [] = refl
with_blank (c ∷ before) = λ i. (eqb c 39 && some before i && blank before i) || with_blank before i where
  some : (before : List ℕ) → has_some (before ++ 32 ∷ 32 ∷ []) ≡ has_some (before ++ 32 ∷ [])
  some [] = refl
  some (d ∷ before) = refl

  blank : (before : List ℕ) → list_all is_blank (before ++ 32 ∷ 32 ∷ []) ≡ list_all is_blank (before ++ 32 ∷ [])
  blank [] = refl
  blank (d ∷ before) = ap (λ (b : Bool). is_blank d && b) (blank before)

some_more : (cs : List ℕ) → has_some (cs ++ 32 ∷ []) ≡ true
some_more [] = refl
some_more (c ∷ cs) = refl

stays_apart : (before : List ℕ) → ends_apart before ≡ true → ends_apart (before ++ 32 ∷ []) ≡ true
stays_apart [] h = absurd cc
stays_apart (c ∷ cs) h =
    let more = cs ++ 32 ∷ [] in
    elim (or_cases (eqb c 39 && has_some cs && list_all is_blank cs) (ends_apart cs) h) [
      | inl here ↦
          let k = and_parts (eqb c 39 && has_some cs) (list_all is_blank cs) here in
          let m = and_parts (eqb c 39) (has_some cs) k.0 in
          let blank : list_all is_blank more ≡ true = list_all-append is_blank cs (32 ∷ []) ∙ and_from (list_all is_blank cs) true k.1 refl in
          or_left (eqb c 39 && has_some more && list_all is_blank more) (ends_apart more)
          (and_from (eqb c 39 && has_some more) (list_all is_blank more) (and_from (eqb c 39) (has_some more) m.0 (some_more cs)) blank)
      | inr behind ↦ or_right (eqb c 39 && has_some more && list_all is_blank more) (ends_apart more) (stays_apart cs behind)
    ]

-- one more character

abbrev next_by : Bool → Bool → Quoting → Quoting
next_by quote blank Inside = if quote then Closed else Inside
next_by quote blank Closed = if quote then Inside else if blank then Apart else Outside
next_by quote blank Apart = if quote then Inside else if blank then Apart else Outside
next_by quote blank Outside = if quote then Inside else Outside

step : (q a n quote blank : Bool) → (a ≡ true → n ≡ true) → (quote && blank) ≡ false → quoting_by (if quote then not q else q) (blank && n) (quote || (blank && n)) ≡ next_by quote blank (quoting_by q a n)
step q a n true true s o = absurd cc
step true a n true false s o = refl
step true a n false blank s o = refl
step false true n true false s o = refl
step false false true true false s o = refl
step false false false true false s o = refl
step false true true false true s o = refl
step false true false false true s o = absurd (let no : false ≡ true = s refl in cc)
step false false true false true s o = refl
step false false false false true s o = refl
step false true n false false s o = refl
step false false true false false s o = refl
step false false false false false s o = refl

apart_more : (before : List ℕ) (c : ℕ) → ends_apart (before ++ c ∷ []) ≡ (is_blank c && ends_apart (before ++ 32 ∷ []))
apart_more before c =
    let go : (b : Bool) → is_blank c ≡ b → ends_apart (before ++ c ∷ []) ≡ (b && ends_apart (before ++ 32 ∷ [])) = λ b. elim b as (λ b. is_blank c ≡ b → ends_apart (before ++ c ∷ []) ≡ (b && ends_apart (before ++ 32 ∷ []))) [
      | true ↦ λ h. ap (λ (d : ℕ). ends_apart (before ++ d ∷ [])) (eqb-true c 32 h)
      | false ↦ λ h. not_apart before (c ∷ []) (ap (λ (b : Bool). b && true) h) (ap (λ (b : Bool). (b && true) || false) (and_right (eqb c 39) false refl))
    ] in
    go (is_blank c) refl

next_more : (before : List ℕ) (c : ℕ) → ends_apart (before ++ c ∷ 32 ∷ []) ≡ (eqb c 39 || (is_blank c && ends_apart (before ++ 32 ∷ [])))
next_more before c =
    let n = ends_apart (before ++ 32 ∷ []) in
    let other : eqb c 39 ≡ false → (b : Bool) → is_blank c ≡ b → ends_apart (before ++ c ∷ 32 ∷ []) ≡ (b && n) = λ k b. elim b as (λ b. is_blank c ≡ b → ends_apart (before ++ c ∷ 32 ∷ []) ≡ (b && n)) [
      | true ↦ λ h. ap (λ (d : ℕ). ends_apart (before ++ d ∷ 32 ∷ [])) (eqb-true c 32 h) ∙ with_blank before
      | false ↦ λ h. not_apart before (c ∷ 32 ∷ []) (ap (λ (b : Bool). b && true) h) (ap (λ (b : Bool). ((b && true) && true) || false) k)
    ] in
    let go : (q : Bool) → eqb c 39 ≡ q → ends_apart (before ++ c ∷ 32 ∷ []) ≡ (q || (is_blank c && n)) = λ q. elim q as (λ q. eqb c 39 ≡ q → ends_apart (before ++ c ∷ 32 ∷ []) ≡ (q || (is_blank c && n))) [
      | true ↦ λ h. ap (λ (d : ℕ). ends_apart (before ++ d ∷ 32 ∷ [])) (eqb-true c 39 h) ∙ found_apart before
      | false ↦ λ h. other h (is_blank c) refl
    ] in
    go (eqb c 39) refl

not_both : (c : ℕ) → (eqb c 39 && eqb c 32) ≡ false
not_both c = grind (arith, eqb-true)

-- where the next character stands behind one more
abbrev pub next_quoting : Quoting → ℕ → Quoting
next_quoting p c = next_by (eqb c 39) (eqb c 32) p

pub quoting_more : (before : List ℕ) (c : ℕ) → quoting_of (before ++ c ∷ []) ≡ next_quoting (quoting_of before) c
unfolding quoting_of
quoting_more before c =
    (λ i. quoting_by (quoted_more before c i) (apart_more before c i) ((ap ends_apart (append_assoc before (c ∷ []) (32 ∷ [])) ∙ next_more before c) i))
    ∙ step (is_quoted before) (ends_apart before) (ends_apart (before ++ 32 ∷ [])) (eqb c 39) (eqb c 32) (stays_apart before) (not_both c)

-- what is kept of a character by where it stands
abbrev pub kept_at : Quoting → ℕ → List ℕ
kept_at Inside c = c ∷ []
kept_at Closed c = if is_blank c then [] else to_ascii_uppercase c ∷ []
kept_at Apart c = if is_blank c then [] else if eqb c 39 then 32 ∷ 39 ∷ [] else to_ascii_uppercase c ∷ []
kept_at Outside c = if is_blank c then [] else to_ascii_uppercase c ∷ []

kept_by : (q a n : Bool) (c : ℕ) → (if q then c ∷ [] else if is_blank c then [] else if eqb c 39 && a then 32 ∷ 39 ∷ [] else to_ascii_uppercase c ∷ []) ≡ kept_at (quoting_by q a n) c
kept_by true a n c = refl
kept_by false true n c = ap (λ (b : Bool). if is_blank c then [] else if b then 32 ∷ 39 ∷ [] else to_ascii_uppercase c ∷ []) (and_true (eqb c 39)) where
  and_true : (b : Bool) → (b && true) ≡ b
  and_true true = refl
  and_true false = refl
kept_by false false n c = plain n where
  plain : (n : Bool) → (if is_blank c then [] else if eqb c 39 && false then 32 ∷ 39 ∷ [] else to_ascii_uppercase c ∷ []) ≡ kept_at (quoting_by false false n) c
  plain true = ap (λ (b : Bool). if is_blank c then [] else if b then 32 ∷ 39 ∷ [] else to_ascii_uppercase c ∷ []) (and_right (eqb c 39) false refl)
  plain false = ap (λ (b : Bool). if is_blank c then [] else if b then 32 ∷ 39 ∷ [] else to_ascii_uppercase c ∷ []) (and_right (eqb c 39) false refl)

pub kept_is : (before : List ℕ) (c : ℕ) → kept before c ≡ kept_at (quoting_of before) c
unfolding kept quoting_of
kept_is before c = kept_by (is_quoted before) (ends_apart before) (ends_apart (before ++ 32 ∷ [])) c

-- nothing is kept of a blank outside constants
no_blank_at : (p : Quoting) → (p ≡ Inside → ⊥) → kept_at p 32 ≡ []
no_blank_at Inside h = absurd (h refl)
no_blank_at Closed h = refl
no_blank_at Apart h = refl
no_blank_at Outside h = refl

pub no_blank_kept : (p : Quoting) (c : ℕ) (before : List ℕ) → (p ≡ Inside → ⊥) → c ≡ 32 → quoting_of before ≡ p → kept before c ≡ []
no_blank_kept p c before h blank same = kept_is before c ∙ (λ i. kept_at (same i) (blank i)) ∙ no_blank_at p h

constant_by : (q a n : Bool) → q ≡ is_inside (quoting_by q a n)
constant_by true a n = refl
constant_by false true n = refl
constant_by false false true = refl
constant_by false false false = refl

pub quoted_is : (before : List ℕ) → is_quoted before ≡ is_inside (quoting_of before)
unfolding quoting_of
quoted_is before = constant_by (is_quoted before) (ends_apart before) (ends_apart (before ++ 32 ∷ []))

-- a character may not stand there
abbrev pub bad_at : Quoting → ℕ → Bool
bad_at p c = not (if is_inside p then is_printable c else is_character c)

pub bad_is : (before : List ℕ) (c : ℕ) → is_bad before c ≡ bad_at (quoting_of before) c
unfolding is_bad
bad_is before c = ap (λ (q : Bool). not (if q then is_printable c else is_character c)) (quoted_is before)

-- behind the characters that stand for it the next one stands so
pub front_quoting : (p : Quoting) → quoting_of (front_of p) ≡ p
unfolding quoting_of is_quoted
front_quoting Inside = refl
front_quoting Closed = refl
front_quoting Apart = refl
front_quoting Outside = refl

-- characters behind which the next one stands alike

pub quoted_from : (a b : List ℕ) → quoting_of a ≡ quoting_of b → is_quoted a ≡ is_quoted b
quoted_from a b h = quoted_is a ∙ ap is_inside h ∙ sym (quoted_is b)

-- so does one more
quoting_more_alike : (a b : List ℕ) (c : ℕ) → quoting_of a ≡ quoting_of b → quoting_of (a ++ c ∷ []) ≡ quoting_of (b ++ c ∷ [])
quoting_more_alike a b c h = quoting_more a c ∙ ap (λ (p : Quoting). next_quoting p c) h ∙ sym (quoting_more b c)

kept_alike : (a b : List ℕ) (c : ℕ) → quoting_of a ≡ quoting_of b → kept a c ≡ kept b c
kept_alike a b c h = kept_is a c ∙ ap (λ (p : Quoting). kept_at p c) h ∙ sym (kept_is b c)

-- of the same characters the same is kept
pub text_alike : (a b cs : List ℕ) → quoting_of a ≡ quoting_of b → text_behind a cs ≡ text_behind b cs
text_alike a b [] h = refl
text_alike a b (c ∷ cs) h = λ i. kept_alike a b c h i ++ text_alike (a ++ c ∷ []) (b ++ c ∷ []) cs (quoting_more_alike a b c h) i

-- blanks alone stand behind no constant

none_before : quoting_of [] ≡ Outside
unfolding quoting_of is_quoted
none_before = refl

quoting_blanks : (m : ℕ) (before : List ℕ) → quoting_of before ≡ Outside → quoting_of (before ++ replicate m 32) ≡ Outside
quoting_blanks zero before h = ap quoting_of (append-nil before) ∙ h
quoting_blanks (suc m) before h =
    ap quoting_of (sym (append_assoc before (32 ∷ []) (replicate m 32)))
    ∙ quoting_blanks m (before ++ 32 ∷ []) (quoting_more before 32 ∙ ap (λ (p : Quoting). next_quoting p 32) h)

pub text_behind_blanks : (m : ℕ) (cs : List ℕ) → text_behind (replicate m 32) cs ≡ text_of cs
text_behind_blanks m cs = text_alike (replicate m 32) [] cs (quoting_blanks m [] none_before ∙ sym none_before)
