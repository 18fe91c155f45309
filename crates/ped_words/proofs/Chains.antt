-- Commands of clap whose arguments are told one after the other.
use Rattle.std.proofs.Common.{◌≡◌, ◌≢◌, inl, inr, ℕ, zero, suc, true, false, [], ◌∷◌, codes, is_some, Some, pos, refl, sym, ap, subst, ◌∙◌, arith}
use Rattle.std.specs.List.{All}
use Rattle.std.specs.Str.{bytes_eq}
use Rattle.std.proofs.lemmas.Bool.{false≢true}
use Rattle.std.proofs.lemmas.List.Elements.{All-nil, All-cons}
use Rattle.clap.specs.Built.{AddsArg, AddsInTurn, IsPlainArg, FitsChain, HasDistinctIds, TakesValue}
use Rattle.clap.specs.Walk.{Text}
use Rattle.clap.specs.declared.builder.arg.Arg.{Arg}
use Rattle.clap.specs.declared.builder.command.Command.{Command}
use Rattle.clap.proofs.CallerLemmas.{required_in_chain, one_required_value}
use Rattle.clap.proofs.CallerReads.{one_required_read}
use Rattle.clap.specs.Lexer.{without_minus}
use Rattle.clap.specs.Matches.{first_value, found_of, one_text}
use Rattle.clap.specs.Values.{Accepts, read_as, reading_of}
use Rattle.clap.specs.declared.builder.value_parser.ValueParser.{ValueParser}
use Rattle.clap.specs.declared.builder.value_parser.ValueParser.TheVariants.{Signed}
use Rattle.ped_words.specs.Parses.{IsMode, IsNeeded, HasValue, HasSize}

same_first : (a b : ℕ) (xs ys : Text) → a ∷ xs ≡ b ∷ ys → a ≡ b
same_first a b xs ys e = cc

-- a name that begins with neither h nor v is none of clap's own
pub fits : (a : Arg) (x : ℕ) (name : Text) → a.id.now ≡ x ∷ name → x ≢ 104 → x ≢ 118 → IsPlainArg a → a.global ≡ false → FitsChain a
fits a x name id h v plain local = (
  plain,
  local,
  λ e. let bad : x ∷ name ≡ [] = sym id ∙ e in cc,
  λ auto. elim auto [
    | inl e ↦ h (same_first x 104 name _ (sym id ∙ e))
    | inr e ↦ v (same_first x 118 name _ (sym id ∙ e))
  ],
)

different : (a b : Arg) (x y : Text) → a.id.now ≡ x → b.id.now ≡ y → bytes_eq x y ≡ false → bytes_eq a.id.now b.id.now ≡ true → ⊥
different a b x y p q n e = false≢true (sym n ∙ sym (ap (λ t. bytes_eq t b.id.now) p ∙ ap (bytes_eq x) q) ∙ e)

-- the arguments of a session have names of their own
distinct : (p s d : Arg) → p.id.now ≡ codes "program" → s.id.now ≡ codes "script" → d.id.now ≡ codes "data" → HasDistinctIds (p ∷ s ∷ d ∷ [])
distinct p s d i j k zero zero x y l m e = refl
distinct p s d i j k zero (suc zero) x y l m e = absurd (different p s _ _ i j refl e)
distinct p s d i j k zero (suc (suc zero)) x y l m e = absurd (different p d _ _ i k refl e)
distinct p s d i j k (suc zero) zero x y l m e = absurd (different s p _ _ j i refl e)
distinct p s d i j k (suc zero) (suc zero) x y l m e = refl
distinct p s d i j k (suc zero) (suc (suc zero)) x y l m e = absurd (different s d _ _ j k refl e)
distinct p s d i j k (suc (suc zero)) zero x y l m e = absurd (different d p _ _ k i refl e)
distinct p s d i j k (suc (suc zero)) (suc zero) x y l m e = absurd (different d s _ _ k j refl e)
distinct p s d i j k (suc (suc zero)) (suc (suc zero)) x y l m e = refl
distinct p s d i j k (suc (suc (suc n))) g x y l m e = absurd (omega (arith, l))
distinct p s d i j k h (suc (suc (suc n))) x y l m e = absurd (omega (arith, m))

-- both arguments that a session needs have values
pub session_values : (mode : Text) (start one two cmd : Command) (p s d : Arg) → IsMode mode start → AddsArg start p one → AddsArg one s two → AddsArg two d cmd
    → IsNeeded (codes "program") p → IsNeeded (codes "script") s → d.id.now ≡ codes "data" → IsPlainArg d → d.global ≡ false
    → HasValue (codes "program") cmd × HasValue (codes "script") cmd
session_values mode start one two cmd p s d start_is first second third hp hs hd plain local =
    let xs = p ∷ s ∷ d ∷ [] in
    let each : All FitsChain xs =
    All-cons FitsChain p (s ∷ d ∷ []) (fits p 112 _ hp.id (λ e. omega (arith, e)) (λ e. omega (arith, e)) hp.plain hp.local)
    (All-cons FitsChain s (d ∷ []) (fits s 115 _ hs.id (λ e. omega (arith, e)) (λ e. omega (arith, e)) hs.plain hs.local)
    (All-cons FitsChain d [] (fits d 100 _ hd (λ e. omega (arith, e)) (λ e. omega (arith, e)) plain local) (All-nil FitsChain))) in
    let apart = distinct p s d hp.id hs.id hd in
    let chain : AddsInTurn AddsArg start xs cmd = (one, first, (two, second, (cmd, third, refl))) in (
      λ m parsed. subst (λ (name : Text). is_some (first_value (found_of m) name) ≡ true) hp.id
          (required_in_chain start cmd xs 0 p m chain start_is.args start_is.groups start_is.local start_is.negates each apart (omega arith) hp.takes parsed),
      λ m parsed. subst (λ (name : Text). is_some (first_value (found_of m) name) ≡ true) hs.id
          (required_in_chain start cmd xs 1 p m chain start_is.args start_is.groups start_is.local start_is.negates each apart (omega arith) hs.takes parsed),
    )

-- the argument that is all that a command needs has a value
pub only_value : (mode : Text) (start cmd : Command) (a : Arg) (x : ℕ) (name : Text) → IsMode mode start → AddsArg start a cmd → IsNeeded (x ∷ name) a → x ≢ 104 → x ≢ 118 → HasValue (x ∷ name) cmd
only_value mode start cmd a x name start_is added needs h v =
    let f = fits a x name needs.id h v needs.plain needs.local in
    let t = needs.takes in
    λ m parsed. subst (λ (name : Text). is_some (first_value (found_of m) name) ≡ true) needs.id
    (one_required_value start cmd a m added start_is.args start_is.groups start_is.local start_is.negates needs.plain needs.local t.0 t.1 t.2 t.3 f.2 f.3 parsed)

-- the argument that is all that a command needs has a number from 1 to 300 for its value, where its parser takes these alone
pub only_size : (mode : Text) (start cmd : Command) (a : Arg) (x : ℕ) (name : Text) (q : ValueParser) → IsMode mode start → AddsArg start a cmd
    → a.id.now ≡ x ∷ name → IsPlainArg a → a.global ≡ false → TakesValue a → x ≢ 104 → x ≢ 118
    → a.value_parser ≡ Some q → q ≡ Signed (pos 1) (pos 300) → HasSize (x ∷ name) cmd
only_size mode start cmd a x name q start_is added id plain local t h v parser is =
    let f = fits a x name id h v plain local in
    λ m parsed.
    let read = one_required_read start cmd a m added start_is.args start_is.groups start_is.local start_is.negates plain local t.0 t.1 t.2 t.3 f.2 f.3 q parser parsed in
    let text : one_text (found_of m) a.id.now ≡ Some (without_minus read.0) = subst (λ (q : ValueParser). one_text (found_of m) a.id.now ≡ Some (read_as (reading_of q) read.0)) is read.1 in (
      read.0,
      subst (λ (name : Text). one_text (found_of m) name ≡ Some (without_minus read.0)) id text,
      subst (λ (q : ValueParser). Accepts a.ignore_case q read.0) is read.2,
    )
