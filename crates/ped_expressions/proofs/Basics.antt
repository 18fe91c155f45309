-- Steps of reading, and what stands first in a text.
use Rattle.std.proofs.Common.{take, drop, ◌∙◌, ◌≡◌, ◌≢◌, ℕ, ◌+◌, ◌<◌, ◌≤◌, Bool, true, false, cond, List, [], ◌∷◌, ◌++◌, length, Option, Some, None, refl, sym, ap, arith, inl, inr, ◌⊎◌, eqb, length-append}
use Rattle.std.specs.Prelude.{codes, MatchOption}
use Rattle.std.specs.Borrow.{Bor}
use Rattle.std.specs.Cmp.Lexicographic.{pointwise}
use Rattle.std.specs.List.{list_all}
use Rattle.std.proofs.lemmas.Bool.{eqb-true}
use Rattle.std.proofs.lemmas.Bool.Decides.{Decides-eqb}
use Rattle.std.proofs.lemmas.Slice.Eq.{strip_prefix_is}
use Rattle.ped_tree.specs.Grammar.ExpressionForms.{unsigned, positive, negative, Adding, add, subtract, Scaling, multiply, divide, sign_text, adding_text, scaling_text}
use Rattle.ped_base.specs.Letters.{is_digit}
use Rattle.ped_expressions.specs.Views.{lent}
use Rattle.ped_expressions.specs.Scanning.{◌>>=◌, go_on, front, behind, first_is, after, sign_at, adding_at, scaling_at}

pub some_is : {A : Type 0} (x y : A) → Some x ≡ Some y → x ≡ y
some_is x y e = cc

pub bind_some : {A B : Type 0} (r : Option A) (f : A → Option B) (y : B) → (r >>= f) ≡ Some y → (x : A) × (r ≡ Some x) × (f x ≡ Some y)
bind_some None f y e = absurd cc
bind_some (Some x) f y e = (x, refl, e)

pub stops_or_goes : {A B : Type 0} (o : Option A) (stop : B) (go : A → B) (z : B) → go_on o stop go ≡ z → ((o ≡ None) × (stop ≡ z)) ⊎ ((x : A) × (o ≡ Some x) × (go x ≡ z))
stops_or_goes None stop go z e = inl (refl, e)
stops_or_goes (Some x) stop go z e = inr (x, refl, e)

pub chosen : {A : Type 0} (b : Bool) (x y z : A) → cond b x y ≡ z → ((b ≡ true) × (x ≡ z)) ⊎ ((b ≡ false) × (y ≡ z))
chosen true x y z e = inl (refl, e)
chosen false x y z e = inr (refl, e)

pub guarded : {A : Type 0} (b : Bool) (o : Option A) (y : A) → cond b o None ≡ Some y → (b ≡ true) × (o ≡ Some y)
guarded true o y e = (refl, e)
guarded false o y e = absurd cc

pub bind_same : {A B : Type 0} (r : Option A) (f g : A → Option B) → ((x : A) → r ≡ Some x → f x ≡ g x) → (r >>= f) ≡ (r >>= g)
bind_same None f g h = refl
bind_same (Some x) f g h = h x refl

pub go_same : {A B : Type 0} (o : Option A) (stop : B) (f g : A → B) → ((x : A) → o ≡ Some x → f x ≡ g x) → go_on o stop f ≡ go_on o stop g
go_same None stop f g h = refl
go_same (Some x) stop f g h = h x refl

pub front_behind : (p : ℕ → Bool) (text : List ℕ) → front p text ++ behind p text ≡ text
front_behind p [] = refl
front_behind p (c ∷ cs) = elim (p c) as (λ b. cond b (c ∷ front p cs) [] ++ cond b (behind p cs) (c ∷ cs) ≡ c ∷ cs) [ true ↦ ap (λ (y : List ℕ). c ∷ y) (front_behind p cs) | false ↦ refl ]

pub front_all : (p : ℕ → Bool) (text : List ℕ) → list_all p (front p text) ≡ true
front_all p [] = refl
front_all p (c ∷ cs) =
    let go : (b : Bool) → p c ≡ b → list_all p (cond b (c ∷ front p cs) []) ≡ true = λ b. elim b as (λ b. p c ≡ b → list_all p (cond b (c ∷ front p cs) []) ≡ true) [ true ↦ λ h. rw (h, front_all p cs) refl | false ↦ λ h. refl ] in
    go (p c) refl

pub behind_len : (p : ℕ → Bool) (text : List ℕ) → length (behind p text) ≤ length text
behind_len p text = omega (arith, ap length (front_behind p text), length-append (front p text) (behind p text))

pub after_is : (prefix text rest : List ℕ) → after prefix text ≡ Some rest → text ≡ prefix ++ rest
after_is [] text rest e = some_is text rest e
after_is (p ∷ ps) [] rest e = absurd cc
after_is (p ∷ ps) (c ∷ cs) rest e =
    let found = guarded (eqb p c) (after ps cs) rest e in
    let heads : p ≡ c = eqb-true p c found.0 in
    let tails = after_is ps cs rest found.1 in
    cc

pub after_again : (prefix rest : List ℕ) → after prefix (prefix ++ rest) ≡ Some rest
after_again [] rest = refl
after_again (p ∷ ps) rest = let same : eqb p p ≡ true = (Decides-eqb p p).1 refl in rw same (after_again ps rest)

pub after_none : (prefix text : List ℕ) → ((rest : List ℕ) → text ≢ prefix ++ rest) → after prefix text ≡ None
after_none prefix text none =
    let go : (r : Option (List ℕ)) → after prefix text ≡ r → r ≡ None = λ r. elim r as (λ r. after prefix text ≡ r → r ≡ None) [
      | None ↦ λ e. refl
      | Some rest ↦ λ e. absurd (none rest (after_is prefix text rest e))
    ] in
    go (after prefix text) refl

pub after_len : (prefix text rest : List ℕ) → after prefix text ≡ Some rest → length prefix + length rest ≡ length text
after_len prefix text rest e = omega (arith, ap length (after_is prefix text rest e), length-append prefix rest)

pub sign_is : (text : List ℕ) → sign_text (sign_at text).0 ++ (sign_at text).1 ≡ text
sign_is text =
    elim (stops_or_goes (after (codes "+") text) (go_on (after (codes "-") text) (unsigned, text) (λ r. (negative, r))) (λ r. (positive, r)) (sign_at text) refl) [
      | inl a ↦ elim (stops_or_goes (after (codes "-") text) (unsigned, text) (λ r. (negative, r)) (sign_at text) a.1) [
        | inl b ↦ rw (← b.1) refl
        | inr b ↦ rw (← b.2) (sym (after_is (codes "-") text b.0 b.1))
      ]
      | inr a ↦ rw (← a.2) (sym (after_is (codes "+") text a.0 a.1))
    ]

pub sign_len : (text : List ℕ) → length (sign_at text).1 ≤ length text
sign_len text = omega (arith, ap length (sign_is text), length-append (sign_text (sign_at text).0) (sign_at text).1)

pub adding_is : (text : List ℕ) (x : Adding × List ℕ) → adding_at text ≡ Some x → text ≡ adding_text x.0 ++ x.1
adding_is text x e =
    elim (stops_or_goes (after (codes "+") text) (go_on (after (codes "-") text) None (λ r. Some (subtract, r))) (λ r. Some (add, r)) (Some x) e) [
      | inl a ↦ elim (stops_or_goes (after (codes "-") text) None (λ r. Some (subtract, r)) (Some x) a.1) [
        | inl b ↦ absurd (let z = b.1 in cc)
        | inr b ↦ rw (← some_is (subtract, b.0) x b.2) (after_is (codes "-") text b.0 b.1)
      ]
      | inr a ↦ rw (← some_is (add, a.0) x a.2) (after_is (codes "+") text a.0 a.1)
    ]

pub scaling_is : (text : List ℕ) (x : Scaling × List ℕ) → scaling_at text ≡ Some x → text ≡ scaling_text x.0 ++ x.1
scaling_is text x e =
    elim (stops_or_goes (after (codes "*") text) (go_on (after (codes "/") text) None (λ r. Some (divide, r))) (λ r. Some (multiply, r)) (Some x) e) [
      | inl a ↦ elim (stops_or_goes (after (codes "/") text) None (λ r. Some (divide, r)) (Some x) a.1) [
        | inl b ↦ absurd (let z = b.1 in cc)
        | inr b ↦ rw (← some_is (divide, b.0) x b.2) (after_is (codes "/") text b.0 b.1)
      ]
      | inr a ↦ rw (← some_is (multiply, a.0) x a.2) (after_is (codes "*") text a.0 a.1)
    ]

adding_long : (op : Adding) → length (adding_text op) ≡ 1
adding_long add = refl
adding_long subtract = refl

scaling_long : (op : Scaling) → length (scaling_text op) ≡ 1
scaling_long multiply = refl
scaling_long divide = refl

pub adding_len : (text : List ℕ) (x : Adding × List ℕ) → adding_at text ≡ Some x → length x.1 + 1 ≡ length text
adding_len text x e = omega (arith, ap length (adding_is text x e), length-append (adding_text x.0) x.1, adding_long x.0)

pub scaling_len : (text : List ℕ) (x : Scaling × List ℕ) → scaling_at text ≡ Some x → length x.1 + 1 ≡ length text
scaling_len text x e = omega (arith, ap length (scaling_is text x e), length-append (scaling_text x.0) x.1, scaling_long x.0)

-- what follows a prefix, as a slice tells it
pub stripped : (text prefix : List ℕ) (r : Option (Bor (List ℕ))) → MatchOption r (pointwise eqb (take (length prefix) text) prefix ≡ false) (λ x. (pointwise eqb (take (length prefix) text) prefix ≡ true) × (x.now ≡ drop (length prefix) text) × (length x.now + length prefix ≡ length text)) → lent r ≡ after prefix text
stripped text prefix None h = sym (after_none prefix text (strip_prefix_is Decides-eqb text prefix None h))
stripped text prefix (Some x) h = sym (ap (after prefix) (strip_prefix_is Decides-eqb text prefix (Some x) h) ∙ after_again prefix x.now)

pub behind_digits : (text : List ℕ) → first_is is_digit text ≡ true → length (behind is_digit text) < length text
behind_digits [] h = absurd cc
behind_digits (c ∷ cs) h = rw h (omega (arith, behind_len is_digit cs))
