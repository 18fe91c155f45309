-- The table of commands: its rows by the number of words.
use Rattle.std.proofs.Common.{◌≡◌, ℕ, ℤ, pos, Bool, true, false, cond, List, [], ◌∷◌, codes, Option, Some, None, option_map, option_and_then, refl, sym, subst}
use Rattle.std.specs.Cmp.Lexicographic.{bytes_decides}
use Rattle.std.specs.Option.{option_or}
use Rattle.ped_base.specs.Lists.{is_same_text}
use Rattle.ped_script.specs.declared.items.Command.{Command}
use Rattle.ped_script.specs.declared.items.Command.TheVariants.{Replace, Delete, Skew, Strip, Expand, Privatise, Reduce, Reject, Run, System}
use Rattle.ped_certificates.specs.declared.claims.Position.{Position}
use Rattle.ped_certificates.specs.declared.claims.Sign.{Sign}
use Rattle.ped_script.specs.Words.{Text, number_of, numbers_of, factor_of, name_of}
use Rattle.ped_script.specs.EvidenceLines.{pair_then}
use Rattle.ped_script.specs.Rows.{Row, done, number, few_names, command_of}
use Rattle.ped_script.specs.Shapes.{alone, with_number, peeled, with_by, with_word, with_two}

-- a row that doesn't fit is passed over
skip : (b : Bool) (o : Option Command) → option_or (cond b None None) o ≡ o
skip true o = refl
skip false o = refl

-- a row that fits by its first word alone
take : (b : Bool) (c : Command) (o : Option Command) → option_or (cond b (Some c) None) o ≡ cond b (Some c) o
take true c o = refl
take false c o = refl

last : (o : Option Command) → option_or o None ≡ o
last None = refl
last (Some c) = refl

only : {A : Type 0} (f : A → Command) (o : Option A) → option_and_then (λ x. Some (f x)) o ≡ option_map f o
only f None = refl
only f (Some x) = refl

pub neither : {A : Type 0} (o : Option A) → option_and_then {T = A} {U = Command} (λ x. None) o ≡ None
neither None = refl
neither (Some x) = refl

no_end : (b : Bool) → cond {A = Option Command} b None None ≡ None
no_end true = refl
no_end false = refl

-- the word is this one, or it is another
by_word : (w e : Text) (P : Text → Type 0) → P e → (is_same_text w e ≡ false → P w) → P w
by_word w e P here other =
    let go : (b : Bool) → is_same_text w e ≡ b → P w = λ b. elim b as (λ b. is_same_text w e ≡ b → P w) [
      | true ↦ λ s. subst P (sym ((bytes_decides w e).0 s)) here
      | false ↦ other
    ] in
    go (is_same_text w e) refl

pub run_row : (ws : List Text) → command_of (codes "run" ∷ ws) ≡ option_map (λ cs. Run cs) (numbers_of 18 ws)
unfolding command_of
run_row ws = last (option_map (λ cs. Run cs) (numbers_of 18 ws))

pub reduce_row : (ws : List Text) → command_of (codes "reduce" ∷ ws) ≡ number (λ s. few_names (λ names. Reduce s names)) ws
unfolding command_of
reduce_row ws = last (number (λ s. few_names (λ names. Reduce s names)) ws)

-- the query for a system, where no word is left
abbrev pub asked : Position → Position → List Sign → Row
asked source sink pattern = done (System source sink pattern)

-- a word behind the pattern is one too many
pub too_many : (a b : Position) (w : Text) (ws : List Text) (o : Option (List Sign)) → option_and_then (λ (p : List Sign × List Text). asked a b p.0 p.1) (option_map (λ p. (p, w ∷ ws)) o) ≡ None
too_many a b w ws None = refl
too_many a b w ws (Some p) = refl

pub system_row : (ws : List Text) → command_of (codes "system" ∷ ws) ≡ pair_then asked ws
unfolding command_of
system_row ws = last (pair_then asked ws)

pub one_word : (w : Text) → is_same_text w (codes "run") ≡ false → command_of (w ∷ []) ≡ alone w
unfolding command_of alone
one_word w e = simp (skip, take, e) refl

pub two_words : (w a : Text) (n : ℕ) → is_same_text w (codes "run") ≡ false → is_same_text w (codes "system") ≡ false → number_of 9 a ≡ Some n → command_of (w ∷ a ∷ []) ≡ with_number w n
unfolding command_of with_number
two_words w a n e f h = simp (h, skip, take, e, f) refl

pub no_number : (w a : Text) (ws : List Text) → is_same_text w (codes "run") ≡ false → is_same_text w (codes "system") ≡ false → number_of 9 a ≡ None → command_of (w ∷ a ∷ ws) ≡ None
unfolding command_of
no_number w a ws e f h = simp (h, skip, e, f) refl

pub four_words : (w a b c : Text) (ws : List Text) (n : ℕ) → is_same_text w (codes "run") ≡ false → is_same_text w (codes "reduce") ≡ false → is_same_text w (codes "system") ≡ false → number_of 9 a ≡ Some n → command_of (w ∷ a ∷ b ∷ c ∷ ws) ≡ None
unfolding command_of
four_words w a b c ws n e r f h = simp (h, neither {A = ℕ}, neither {A = ℤ}, neither {A = Text}, no_end, e, r, f) refl

pub three_words : (w a b : Text) (n : ℕ) → is_same_text w (codes "run") ≡ false → is_same_text w (codes "reduce") ≡ false → is_same_text w (codes "system") ≡ false → number_of 9 a ≡ Some n → command_of (w ∷ a ∷ b ∷ []) ≡ with_two w n b
unfolding command_of with_two with_word with_by peeled
three_words w a b n e r f h =
    let P : Text → Type 0 = λ w. command_of (w ∷ a ∷ b ∷ []) ≡ with_two w n b in
    by_word w (codes "replace") P (simp (h, last) (only (λ k. Replace n k []) (number_of 9 b))) (λ e1.
    by_word w (codes "delete") P (simp (h, last) (only (Delete n) (number_of 9 b))) (λ e2.
    by_word w (codes "skew") P (simp (h, last) (only (Skew n) (factor_of b))) (λ e3.
    by_word w (codes "strip") P (simp (h, last) (only (λ k. Strip n (pos k)) (number_of 9 b))) (λ e4.
    by_word w (codes "peel") P (simp (h, take) refl) (λ e5.
    by_word w (codes "expand") P (simp (h, last) (only (Expand n) (name_of b))) (λ e6.
    by_word w (codes "privatise") P (simp (h, last) (only (Privatise n) (name_of b))) (λ e7.
    by_word w (codes "reject") P (simp (h, last) (only (Reject n) (name_of b))) (λ e8.
    by_word w (codes "interchange") P (simp (h, take) refl) (λ e9.
    by_word w (codes "reverse") P (simp (h, take) refl) (λ e10.
    by_word w (codes "parallel") P (simp (h, take) refl) (λ e11.
    simp (h, skip, no_end, e, r, f, e1, e2, e3, e4, e5, e6, e7, e8, e9, e10, e11) refl)))))))))))
