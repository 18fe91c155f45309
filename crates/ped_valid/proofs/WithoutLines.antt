-- Which rules the names of a program break doesn't depend on the lines of its statements.
use Rattle.std.proofs.Common.{◌≡◌, ℕ, Bool, true, false, if◌then◌else◌, List, [], ◌∷◌, ◌++◌, map, drop, refl, sym, ap₂, ◌∙◌}
use Rattle.std.proofs.lemmas.List.{map-append}
use Rattle.ped_tree.specs.Tree.{ProgramTree}
use Rattle.ped_tree.specs.Grammar.Refusal.{Refusal, Finding, refused_if}
use Rattle.ped_symbols.specs.ped_refs.specs.References.{Reference, references}
use Rattle.ped_symbols.specs.Sites.{Site, program_sites}
use Rattle.ped_symbols.specs.Declarations.{Declared, declared_in}
use Rattle.ped_symbols.specs.NameRefusals.{Before, at_first, behind_site, at_site, next_line, at_sites, name_refusals}

-- the rules that are broken, without the lines
abbrev rules_of : List Finding → List Refusal
rules_of findings = map (λ f. f.refusal) findings

rule_if : (test : Bool) (r : Refusal) (line : ℕ) → map (λ f. f.refusal) (refused_if test r line) ≡ (if test then r ∷ [] else [])
unfolding refused_if
rule_if true r line = refl
rule_if false r line = refl

-- at a site; whatever refusals are asked there
same_at_site : (d : Declared) (refs : List Reference) (b : Before) (l m : ℕ) (s : Site) → rules_of (at_site d refs b l s) ≡ rules_of (at_site d refs b m s)
same_at_site d refs b l m s = simp (map-append, rule_if)

same_at_sites : (d : Declared) (refs : List Reference) (b : Before) (ls ms : List ℕ) (ss : List Site) → rules_of (at_sites d refs b ls ss) ≡ rules_of (at_sites d refs b ms ss)
same_at_sites d refs b ls ms [] = refl
same_at_sites d refs b ls ms (s ∷ rest) =
    map-append _ (at_site d refs b (next_line ls) s) (at_sites d refs (behind_site b s) (drop 1 ls) rest)
    ∙ ap₂ ◌++◌ (same_at_site d refs b (next_line ls) (next_line ms) s) (same_at_sites d refs (behind_site b s) (drop 1 ls) (drop 1 ms) rest)
    ∙ sym (map-append _ (at_site d refs b (next_line ms) s) (at_sites d refs (behind_site b s) (drop 1 ms) rest))

none_alike : (fs gs : List Finding) → rules_of fs ≡ rules_of gs → fs ≡ [] → gs ≡ []
none_alike fs [] e h = refl
none_alike [] (g ∷ gs) e h = absurd cc
none_alike (f ∷ fs) (g ∷ gs) e h = absurd cc

-- where nothing is refused on some lines, nothing is on any other lines
pub none_on_any : (ls ms : List ℕ) (t : ProgramTree) → name_refusals ls t ≡ [] → name_refusals ms t ≡ []
none_on_any ls ms t h = none_alike (name_refusals ls t) (name_refusals ms t) (same_at_sites (declared_in t.decls) (references t) at_first ls ms (program_sites t)) h
