-- Whether the next character stands in a constant, and what follows from that alone.
use Rattle.std.proofs.Common.{◌≡◌, ℕ, ◌+◌, ◌%◌, Bool, true, false, if◌then◌else◌, List, [], ◌∷◌, ◌++◌, refl, ap, sym, ◌∙◌, append_assoc, eqb, cond, arith}
use Rattle.std.specs.Prelude.{not, ◌||◌, count_by}
use Rattle.std.proofs.lemmas.List.{append-nil}
use Rattle.std.proofs.lemmas.List.Sums.{sum_by-append}
use Rattle.ped_tree.specs.Grammar.Characters.{is_quoted, is_bad, has_bad, kept, text_behind}

-- one more turns an even number odd and an odd one even
odd_with : (n : ℕ) (b : Bool) → eqb ((n + (0 + cond b 1 0)) % 2) 1 ≡ (if b then not (eqb (n % 2) 1) else eqb (n % 2) 1)
odd_with n true = grind arith
odd_with n false = grind arith

-- an apostrophe opens or closes, and nothing else does
pub quoted_more : (before : List ℕ) (c : ℕ) → is_quoted (before ++ c ∷ []) ≡ (if eqb c 39 then not (is_quoted before) else is_quoted before)
unfolding is_quoted
quoted_more before c =
    ap (λ (n : ℕ). eqb (n % 2) 1) (sum_by-append (λ x. cond (eqb x 39) 1 0) before (c ∷ []))
    ∙ odd_with (count_by (λ x. eqb x 39) before) (eqb c 39)

-- characters behind which the next one stands alike: so does one more
pub alike_more : (a b : List ℕ) (c : ℕ) → is_quoted a ≡ is_quoted b → is_quoted (a ++ c ∷ []) ≡ is_quoted (b ++ c ∷ [])
alike_more a b c h = quoted_more a c ∙ ap (λ (q : Bool). if eqb c 39 then not q else q) h ∙ sym (quoted_more b c)

-- and so do more
pub quoted_alike : (a b cs : List ℕ) → is_quoted a ≡ is_quoted b → is_quoted (a ++ cs) ≡ is_quoted (b ++ cs)
quoted_alike a b [] h = ap is_quoted (append-nil a) ∙ h ∙ sym (ap is_quoted (append-nil b))
quoted_alike a b (c ∷ cs) h =
    ap is_quoted (sym (append_assoc a (c ∷ []) cs))
    ∙ quoted_alike (a ++ c ∷ []) (b ++ c ∷ []) cs (alike_more a b c h)
    ∙ ap is_quoted (append_assoc b (c ∷ []) cs)

bad_alike : (a b : List ℕ) (c : ℕ) → is_quoted a ≡ is_quoted b → is_bad a c ≡ is_bad b c
unfolding is_bad
bad_alike a b c h = rw h refl

-- the same characters may stand or not
pub has_bad_alike : (a b cs : List ℕ) → is_quoted a ≡ is_quoted b → has_bad a cs ≡ has_bad b cs
has_bad_alike a b [] h = refl
has_bad_alike a b (c ∷ cs) h = λ i. bad_alike a b c h i || has_bad_alike (a ++ c ∷ []) (b ++ c ∷ []) cs (alike_more a b c h) i

-- first the text of the front, then that of the rest
pub text_append : (before front rest : List ℕ) → text_behind before (front ++ rest) ≡ text_behind before front ++ text_behind (before ++ front) rest
text_append before [] rest = ap (λ (b : List ℕ). text_behind b rest) (sym (append-nil before))
text_append before (c ∷ front) rest =
    let ahead = before ++ c ∷ [] in
    ap (λ (t : List ℕ). kept before c ++ t) (text_append ahead front rest)
    ∙ sym (append_assoc (kept before c) (text_behind ahead front) (text_behind (ahead ++ front) rest))
    ∙ ap (λ (b : List ℕ). (kept before c ++ text_behind ahead front) ++ text_behind b rest) (append_assoc before (c ∷ []) front)

-- some character of the front, or of the rest
pub has_bad_append : (before front rest : List ℕ) → has_bad before (front ++ rest) ≡ (has_bad before front || has_bad (before ++ front) rest)
has_bad_append before [] rest = ap (λ (b : List ℕ). has_bad b rest) (sym (append-nil before))
has_bad_append before (c ∷ front) rest =
    let ahead = before ++ c ∷ [] in
    ap (λ (t : Bool). is_bad before c || t) (has_bad_append ahead front rest)
    ∙ either (is_bad before c) (has_bad ahead front) (has_bad (ahead ++ front) rest)
    ∙ ap (λ (b : List ℕ). (is_bad before c || has_bad ahead front) || has_bad b rest) (append_assoc before (c ∷ []) front) where
      either : (x y z : Bool) → (x || (y || z)) ≡ ((x || y) || z)
      either true y z = refl
      either false y z = refl

-- with one character more
pub text_more : (before front : List ℕ) (c : ℕ) → text_behind before (front ++ c ∷ []) ≡ text_behind before front ++ kept (before ++ front) c
text_more before front c = text_append before front (c ∷ []) ∙ ap (λ (t : List ℕ). text_behind before front ++ t) (append-nil (kept (before ++ front) c))

pub has_bad_more : (before front : List ℕ) (c : ℕ) → has_bad before (front ++ c ∷ []) ≡ (has_bad before front || is_bad (before ++ front) c)
has_bad_more before front c = has_bad_append before front (c ∷ []) ∙ ap (λ (b : Bool). has_bad before front || b) (or_false (is_bad (before ++ front) c)) where
  or_false : (b : Bool) → (b || false) ≡ b
  or_false true = refl
  or_false false = refl
