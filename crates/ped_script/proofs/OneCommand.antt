-- Words fit one row of the table at most.
use Rattle.std.proofs.Common.{◌≡◌, inl, inr, ℕ, Bool, true, false, cond, List, [], ◌∷◌, codes, Option, Some, None, option_and_then, refl, sym, ap, ◌∙◌}
use Rattle.std.specs.Cmp.Lexicographic.{bytes_decides}
use Rattle.std.specs.Option.{option_or}
use Rattle.ped_base.specs.Lists.{is_same_text}
use Rattle.ped_script.specs.declared.items.Command.{Command}
use Rattle.ped_script.specs.declared.items.Command.TheVariants.{Deps, Peel, Interchange, Reverse, Parallel, InterchangeBy, ReverseBy, ParallelBy}
use Rattle.ped_script.specs.Words.{Text, number_of}
use Rattle.ped_script.specs.Rows.{Row, done, word, number, rows, first_fit, Fit, AreCommand, command_of}
use Rattle.ped_script.proofs.Table.{neither}

-- words that fit a row begin with its word
begins : (e : Text) (next : Row) (words : List Text) (c : Command) → word e next words ≡ Some c → (rest : List Text) × (words ≡ e ∷ rest) × (next rest ≡ Some c)
begins e next [] c h = absurd cc
begins e next (w ∷ ws) c h =
    let go : (b : Bool) → is_same_text w e ≡ b → cond b (next ws) None ≡ Some c → (rest : List Text) × (w ∷ ws ≡ e ∷ rest) × (next rest ≡ Some c) = λ b. elim b as (λ b. is_same_text w e ≡ b → cond b (next ws) None ≡ Some c → (rest : List Text) × (w ∷ ws ≡ e ∷ rest) × (next rest ≡ Some c)) [
      | true ↦ λ s k. (ws, ap (λ x. x ∷ ws) ((bytes_decides w e).0 s), k)
      | false ↦ λ s k. absurd cc
    ] in
    go (is_same_text w e) refl h

-- words that fit the row are found to be its command
abbrev IsFound : Row → Type 0
IsFound r = (words : List Text) (c : Command) → r words ≡ Some c → command_of words ≡ Some c

-- a row before which no other fits
found : (e : Text) (next more : Row) → ((rest : List Text) → command_of (e ∷ rest) ≡ option_or (next rest) (more rest)) → IsFound (word e next)
found e next more first words c h =
    let b = begins e next words c h in
    ap command_of b.1 ∙ first b.0 ∙ ap (λ o. option_or o (more b.0)) b.2

-- a row with a word of its own
own : (e : Text) (next : Row) → ((rest : List Text) → command_of (e ∷ rest) ≡ option_or (next rest) None) → IsFound (word e next)
own e next first = found e next (λ rest. None) first

-- `deps` with a number has a word that `deps` alone hasn't
found_deps : IsFound (word (codes "deps") (number (λ s. done (Deps (Some s)))))
unfolding command_of
found_deps words c h =
    let b = begins _ _ words c h in
    let go : (rest : List Text) → number (λ s. done (Deps (Some s))) rest ≡ Some c → command_of (codes "deps" ∷ rest) ≡ Some c = λ rest. elim rest as (λ rest. number (λ s. done (Deps (Some s))) rest ≡ Some c → command_of (codes "deps" ∷ rest) ≡ Some c) [
      | [] ↦ λ k. absurd cc
      | a ∷ more ↦ λ k. ap (λ o. option_or o None) k
    ] in
    ap command_of b.1 ∙ go b.0 b.2

-- `peel` with `last` has a last word that isn't `first`
found_peel : IsFound (word (codes "peel") (number (λ s. word (codes "last") (done (Peel s true)))))
unfolding command_of
found_peel words c h =
    let b = begins _ _ words c h in
    let last : (a : Text) (more : List Text) (o : Option ℕ) → number_of 9 a ≡ o → option_and_then (λ s. word (codes "last") (done (Peel s true)) more) o ≡ Some c → command_of (codes "peel" ∷ a ∷ more) ≡ Some c = λ a more o. elim o as (λ o. number_of 9 a ≡ o → option_and_then (λ s. word (codes "last") (done (Peel s true)) more) o ≡ Some c → command_of (codes "peel" ∷ a ∷ more) ≡ Some c) [
      | None ↦ λ e k. absurd cc
      | Some s ↦ λ e k.
          let d = begins _ _ more c k in
          ap (λ ws. command_of (codes "peel" ∷ a ∷ ws)) d.1 ∙ simp e (ap (λ o. option_or o None) d.2)
    ] in
    let go : (rest : List Text) → number (λ s. word (codes "last") (done (Peel s true))) rest ≡ Some c → command_of (codes "peel" ∷ rest) ≡ Some c = λ rest. elim rest as (λ rest. number (λ s. word (codes "last") (done (Peel s true))) rest ≡ Some c → command_of (codes "peel" ∷ rest) ≡ Some c) [
      | [] ↦ λ k. absurd cc
      | a ∷ more ↦ λ k. last a more (number_of 9 a) refl k
    ] in
    ap command_of b.1 ∙ go b.0 b.2

-- words that fit the row of a step with evidence don't fit that of the plain step
not_plain : (plain by : ℕ → Command) (c : Command) (rest : List Text) → number (λ s. word (codes "by") (done (by s))) rest ≡ Some c → number (λ s. done (plain s)) rest ≡ None
not_plain plain by c [] h = absurd cc
not_plain plain by c (a ∷ []) h = let e : None ≡ Some c = sym (neither (number_of 9 a)) ∙ h in absurd cc
not_plain plain by c (a ∷ b ∷ more) h = neither (number_of 9 a)

-- the row of a step with evidence, behind that of the plain step
found_by : (e : Text) (plain by : ℕ → Command)
    → ((rest : List Text) → command_of (e ∷ rest) ≡ option_or (number (λ s. done (plain s)) rest) (option_or (number (λ s. word (codes "by") (done (by s))) rest) None))
    → IsFound (word e (number (λ s. word (codes "by") (done (by s)))))
found_by e plain by first words c h =
    let b = begins e (number (λ s. word (codes "by") (done (by s)))) words c h in
    ap command_of b.1 ∙ first b.0
    ∙ ap (λ o. option_or o (option_or (number (λ s. word (codes "by") (done (by s))) b.0) None)) (not_plain plain by c b.0 b.2)
    ∙ ap (λ o. option_or o None) b.2

abbrev AllFound : List Row → Type 0
AllFound [] = Unit {0}
AllFound (r ∷ rs) = IsFound r × (AllFound rs)

infixr 5 ◌⨾◌
◌⨾◌ : {A B : Type 0} → A → B → A × B
a ⨾ b = (a, b)

-- row by row
found_all : AllFound rows
unfolding command_of
found_all =
    own _ _ (λ rest. refl)
    ⨾ found _ _ (λ rest. option_or (number (λ s. done (Deps (Some s))) rest) None) (λ rest. refl)
    ⨾ found_deps
    ⨾ own _ _ (λ rest. refl)
    ⨾ own _ _ (λ rest. refl)
    ⨾ own _ _ (λ rest. refl)
    ⨾ own _ _ (λ rest. refl)
    ⨾ own _ _ (λ rest. refl)
    ⨾ own _ _ (λ rest. refl)
    ⨾ own _ _ (λ rest. refl)
    ⨾ found _ _ (λ rest. option_or (number (λ s. word (codes "by") (done (InterchangeBy s []))) rest) None) (λ rest. refl)
    ⨾ found_by _ Interchange (λ s. InterchangeBy s []) (λ rest. refl)
    ⨾ found _ _ (λ rest. option_or (number (λ s. word (codes "by") (done (ReverseBy s []))) rest) None) (λ rest. refl)
    ⨾ found_by _ Reverse (λ s. ReverseBy s []) (λ rest. refl)
    ⨾ own _ _ (λ rest. refl)
    ⨾ own _ _ (λ rest. refl)
    ⨾ found _ _ (λ rest. option_or (number (λ s. word (codes "last") (done (Peel s true))) rest) None) (λ rest. refl)
    ⨾ found_peel
    ⨾ own _ _ (λ rest. refl)
    ⨾ own _ _ (λ rest. refl)
    ⨾ own _ _ (λ rest. refl)
    ⨾ own _ _ (λ rest. refl)
    ⨾ own _ _ (λ rest. refl)
    ⨾ own _ _ (λ rest. refl)
    ⨾ found _ _ (λ rest. option_or (number (λ s. word (codes "by") (done (ParallelBy s []))) rest) None) (λ rest. refl)
    ⨾ found_by _ Parallel (λ s. ParallelBy s []) (λ rest. refl)
    ⨾ own _ _ (λ rest. refl)
    ⨾ own _ _ (λ rest. refl)
    ⨾ own _ _ (λ rest. refl)
    ⨾ own _ _ (λ rest. refl)
    ⨾ own _ _ (λ rest. refl)
    ⨾ own _ _ (λ rest. refl)
    ⨾ own _ _ (λ rest. refl)
    ⨾ own _ _ (λ rest. refl)
    ⨾ own _ _ (λ rest. refl)
    ⨾ tt

-- what is found of all rows is found of the one that fits
one_of : (rs : List Row) → AllFound rs → (words : List Text) (c : Command) → Fit rs words c → command_of words ≡ Some c
one_of [] f words c h = absurd h
one_of (r ∷ rs) f words c (inl h) = f.0 words c h
one_of (r ∷ rs) f words c (inr h) = one_of rs f.1 words c h

-- the words of a command are found to be it
pub command_found : (words : List Text) (c : Command) → AreCommand words c → command_of words ≡ Some c
command_found = one_of rows found_all

-- where a command is found, some row fits
fits : (rs : List Row) (words : List Text) (c : Command) → first_fit rs words ≡ Some c → Fit rs words c
fits [] words c h = absurd cc
fits (r ∷ rs) words c h =
    let go : (o : Option Command) → r words ≡ o → option_or o (first_fit rs words) ≡ Some c → Fit (r ∷ rs) words c = λ o. elim o as (λ o. r words ≡ o → option_or o (first_fit rs words) ≡ Some c → Fit (r ∷ rs) words c) [
      | None ↦ λ e k. inr (fits rs words c k)
      | Some d ↦ λ e k. inl (e ∙ k)
    ] in
    go (r words) refl h

pub command_fits : (words : List Text) (c : Command) → command_of words ≡ Some c → AreCommand words c
unfolding command_of
command_fits words c h = fits rows words c h

pub same_command : (words : List Text) (a b : Command) → AreCommand words a → AreCommand words b → a ≡ b
same_command words a b h k = let e = command_found words a h in let f = command_found words b k in cc
