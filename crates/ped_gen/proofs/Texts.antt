-- Texts of lines that are made piece by piece.
use Rattle.std.proofs.Common.{◌≡◌, ◌∙◌, ℕ, suc, ◌+◌, ◌-◌, ◌<◌, List, [], ◌∷◌, ◌++◌, ap, sym, append_assoc, append-nil, arith, codes}
use Rattle.std.proofs.lemmas.Grind.{flat_map-append}
use Rattle.std.specs.List.{flat_map, range_with_len}
use Rattle.ped_gen.specs.Generated.{text_of, front, later_nest, commands, program, script}

module _ (f : ℕ → List (List ℕ)) (behind : List (List ℕ)) where
  -- the text of what is left from k on, before this end
  abbrev pub left_from : ℕ → ℕ → List ℕ
  left_from k end = text_of (flat_map f (range_with_len k (end - k)) ++ behind)

  opened : (k end : ℕ) → k < end → left_from k end ≡ text_of (f k) ++ left_from (k + 1) end
  opened k end h =
      let more : end - k ≡ suc (end - (k + 1)) = omega arith in
      let rest = flat_map f (range_with_len (k + 1) (end - (k + 1))) in
      ap (λ (m : ℕ). text_of (flat_map f (range_with_len k m) ++ behind)) more
      ∙ ap text_of (append_assoc (f k) rest behind)
      ∙ flat_map-append (λ (line : List ℕ). line ++ 10 ∷ []) (f k) (rest ++ behind)

  -- the piece for k is added
  pub one_more : (k end : ℕ) (before after all : List ℕ) → k < end → after ≡ before ++ text_of (f k) → before ++ left_from k end ≡ all → after ++ left_from (k + 1) end ≡ all
  one_more k end before after all h added whole =
      ap (λ (t : List ℕ). t ++ left_from (k + 1) end) added
      ∙ append_assoc before (text_of (f k)) (left_from (k + 1) end)
      ∙ ap (λ (t : List ℕ). before ++ t) (sym (opened k end h))
      ∙ whole

  -- nothing is left but what stands behind
  pub at_end : (k end : ℕ) (before all : List ℕ) → end - k ≡ 0 → before ++ left_from k end ≡ all → before ++ text_of behind ≡ all
  at_end k end before all none whole = sym (ap (λ (m : ℕ). before ++ text_of (flat_map f (range_with_len k m) ++ behind)) none) ∙ whole

-- the last line of a program
abbrev pub last : List (List ℕ)
last = codes "      END" ∷ []

-- before the first nest behind the front all of these are left
pub program_left : (n : ℕ) → text_of front ++ left_from later_nest last 1 (n + 1) ≡ program n
unfolding program
program_left n =
    let same : n + 1 - 1 ≡ n = omega arith in
    ap (λ (m : ℕ). text_of front ++ text_of (flat_map later_nest (range_with_len 1 m) ++ last)) same
    ∙ sym (flat_map-append (λ (line : List ℕ). line ++ 10 ∷ []) front (flat_map later_nest (range_with_len 1 n) ++ last))

-- before the first nest's commands all are left
pub script_left : (n : ℕ) → left_from commands [] 1 (n + 1) ≡ script n
unfolding script
script_left n =
    let same : n + 1 - 1 ≡ n = omega arith in
    ap (λ (m : ℕ). text_of (flat_map commands (range_with_len 1 m) ++ [])) same
    ∙ ap text_of (append-nil (flat_map commands (range_with_len 1 n)))
