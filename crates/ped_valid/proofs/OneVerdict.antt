-- Each text has a valid tree or a first refusal, one of them, and not both; the printed text of a valid tree is valid.
use Rattle.std.proofs.Common.{◌≡◌, ◌⊎◌, inl, inr, ℕ, List, [], Option, Some, None, refl, sym, ap, ap₂, ◌∙◌, subst}
use Rattle.ped_tree.specs.Tree.{ProgramTree}
use Rattle.ped_tree.specs.Printing.{program_text}
use Rattle.ped_tree.specs.Grammar.Refusal.{Finding, first_of}
use Rattle.ped_tree.specs.Grammar.Items.{Entry}
use Rattle.ped_tree.specs.Grammar.Occurrences.{saved_names}
use Rattle.ped_tree.specs.Grammar.ProgramForms.{first_lines}
use Rattle.ped_tree.specs.Grammar.Reading.{Reads, HasFirstLines}
use Rattle.ped_tree.proofs.GrammarLaws.First.{none_stands}
use Rattle.ped_tree.proofs.GrammarLaws.OneReading.{one_cut}
use Rattle.ped_parse.specs.ped_statements.proofs.OneStatement.{one_item}
use Rattle.ped_parse.specs.ped_printed.proofs.ProgramLaws.PrintedProgram.{read_fits, fitting_prints}
use Rattle.ped_parse.specs.Verdicts.{HasOneTree, HasOneRefusal}
use Rattle.ped_parse.proofs.OneOfBoth as reading
use Rattle.ped_symbols.specs.NameRefusals.{name_refusals, IsValid}
use Rattle.ped_valid.specs.Validity.{ReadsValid, RefusesText, in_reading, in_names, PrintsValid}
use Rattle.ped_valid.specs.Verdicts.{HasOneValidTree, HasOneFirstRefusal}
use Rattle.ped_valid.proofs.WithoutLines.{none_on_any}

-- what a text reads as has first lines
lines_of : (text : List ℕ) (t : ProgramTree) → Reads text t → (ls : List ℕ) × HasFirstLines text ls
lines_of text t r = (first_lines (saved_names r.entries) r.entries, record { entries = r.entries; cut = r.cut; counted = refl })

-- and only one list of them
one_lines : (text ls ms : List ℕ) → HasFirstLines text ls → HasFirstLines text ms → ls ≡ ms
one_lines text ls ms p q =
    sym p.counted ∙ ap (λ (es : List Entry). first_lines (saved_names es) es) (one_cut one_item text p.entries q.entries p.cut q.cut) ∙ q.counted

-- where no name is refused, on whatever lines, what a text reads as is valid
pub valid_as_read : (text : List ℕ) (t : ProgramTree) (ls : List ℕ) → Reads text t → name_refusals ls t ≡ [] → ReadsValid text t
valid_as_read text t ls r none = record { reads = r; valid = record { fits = read_fits text t r; names = none_on_any ls [] t none } }

-- nothing is the first of none
not_first : (fs : List Finding) (f : Finding) → fs ≡ [] → first_of fs ≡ Some f → ⊥
not_first fs f none h = let e : ◌≡◌ {A = Option Finding} None (Some f) = sym (ap first_of none) ∙ h in cc

some_is : (f g : Finding) → Some f ≡ Some g → f ≡ g
some_is f g e = cc

not_refused : (text : List ℕ) (h : HasOneTree text) (ls : List ℕ) → name_refusals ls h.tree ≡ [] → (f : Finding) → RefusesText text f → ⊥
not_refused text h ls none f (in_reading r) = h.accepted f r
not_refused text h ls none f (in_names r) =
    let here = subst (λ (u : ProgramTree). name_refusals r.lines u ≡ []) (sym (h.only r.tree r.reads)) (none_on_any ls r.lines h.tree none) in
    not_first (name_refusals r.lines r.tree) f here r.least

with_tree : (text : List ℕ) (h : HasOneTree text) (ls : List ℕ) → name_refusals ls h.tree ≡ [] → HasOneValidTree text
with_tree text h ls none = record {
  tree = h.tree;
  reads = valid_as_read text h.tree ls h.reads none;
  only = λ u p. h.only u p.reads;
  accepted = not_refused text h ls none;
}

same_names : (text : List ℕ) (h : HasOneTree text) (ls : List ℕ) → HasFirstLines text ls → (f : Finding) → first_of (name_refusals ls h.tree) ≡ Some f → (g : Finding) → RefusesText text g → g ≡ f
same_names text h ls begin f e g (in_reading r) = absurd (h.accepted g r)
same_names text h ls begin f e g (in_names r) =
    some_is g f (sym r.least ∙ ap₂ (λ (ms : List ℕ) (u : ProgramTree). first_of (name_refusals ms u)) (one_lines text r.lines ls r.begin begin) (h.only r.tree r.reads) ∙ e)

not_valid : (text : List ℕ) (h : HasOneTree text) (ls : List ℕ) (f : Finding) → first_of (name_refusals ls h.tree) ≡ Some f → (t : ProgramTree) → ReadsValid text t → ⊥
not_valid text h ls f e t p =
    let here = subst (λ (u : ProgramTree). name_refusals [] u ≡ []) (h.only t p.reads) p.valid.names in
    not_first (name_refusals ls h.tree) f (none_on_any [] ls h.tree here) e

with_names : (text : List ℕ) (h : HasOneTree text) (ls : List ℕ) → HasFirstLines text ls → (f : Finding) → first_of (name_refusals ls h.tree) ≡ Some f → HasOneFirstRefusal text
with_names text h ls begin f e = record {
  first = f;
  refuses = in_names (record { tree = h.tree; reads = h.reads; lines = ls; begin = begin; least = e });
  only = same_names text h ls begin f e;
  treeless = not_valid text h ls f e;
}

same_reading : (text : List ℕ) (h : HasOneRefusal text) (g : Finding) → RefusesText text g → g ≡ h.first
same_reading text h g (in_reading r) = h.only g r
same_reading text h g (in_names r) = absurd (h.treeless r.tree r.reads)

with_refusal : (text : List ℕ) → HasOneRefusal text → HasOneFirstRefusal text
with_refusal text h = record {
  first = h.first;
  refuses = in_reading h.refuses;
  only = same_reading text h;
  treeless = λ t p. h.treeless t p.reads;
}

by_names : (text : List ℕ) (h : HasOneTree text) (ls : List ℕ) → HasFirstLines text ls → (found : Option Finding) → first_of (name_refusals ls h.tree) ≡ found → HasOneValidTree text ⊎ HasOneFirstRefusal text
by_names text h ls begin None e = inl (with_tree text h ls (none_stands (name_refusals ls h.tree) e))
by_names text h ls begin (Some f) e = inr (with_names text h ls begin f e)

by_reading : (text : List ℕ) → HasOneTree text ⊎ HasOneRefusal text → HasOneValidTree text ⊎ HasOneFirstRefusal text
by_reading text (inl h) =
    let ls = lines_of text h.tree h.reads in
    by_names text h ls.0 ls.1 (first_of (name_refusals ls.0 h.tree)) refl
by_reading text (inr h) = inr (with_refusal text h)

pub one_of_both : (text : List ℕ) → HasOneValidTree text ⊎ HasOneFirstRefusal text
one_of_both text = by_reading text (reading.one_of_both text)

pub valid_prints : (t : ProgramTree) → IsValid t → PrintsValid t
valid_prints t v =
    let prints = fitting_prints t v.fits in
    let here : ReadsValid (program_text t) t = record { reads = (prints t).1 refl; valid = v } in
    λ u. (λ p. (prints u).0 p.reads, λ e. subst (λ (w : ProgramTree). ReadsValid (program_text t) w) (sym e) here)
