use Rattle.std.proofs.Common.{◌≡◌, ◌++◌, ℕ, List, ap, sym, ◌∙◌}
use Rattle.std.proofs.lemmas.List.{append-nil}
use Rattle.ped_tree.specs.Grammar.Characters.{kept}
use Rattle.ped_lines.specs.declared.characters.Quoting.{Quoting}
use Rattle.ped_lines.specs.declared.characters.Quoting.TheVariants.{Inside}
use Rattle.ped_lines.specs.Quoting.{quoting_of}
use Rattle.ped_lines.proofs.Constants.{no_blank_kept}
use Rattle.ped_lines.proofs.characters.push_kept.Goals as goal

unchanged : (items : List ℕ) (p : Quoting) (c : ℕ) → (p ≡ Inside → ⊥) → c ≡ 32 → (before : List ℕ) → quoting_of before ≡ p → items ≡ items ++ kept before c
unchanged items p c h blank before same = sym (ap (λ (t : List ℕ). items ++ t) (no_blank_kept p c before h blank same) ∙ append-nil items)

pub returns-in_default-eq32 : goal.returns-in_default-eq32
returns-in_default-eq32 c = unchanged c.args.text.now.items c.args.quoting c.args.c c.in_default-eq32.not-Inside-0 c.in_default-eq32.is-1

pub returns-in_default-eq32-2 : goal.returns-in_default-eq32-2
returns-in_default-eq32-2 c = unchanged c.args.text.now.items c.args.quoting c.args.c c.in_default-eq32.not-Inside-0 c.in_default-eq32.is-1
