use Rattle.std.proofs.Common.{◌≡◌, not, refl, sym, ap, subst, ◌∙◌}
use Rattle.ped_tree.specs.Tree.{ProgramTree}
use Rattle.ped_tree.specs.Views.{program_tree}
use Rattle.ped_tree.specs.Printing.{program_text}
use Rattle.ped_valid.specs.ped_symbols.specs.NameRefusals.{IsValid}
use Rattle.ped_versions.specs.declared.versions.Way.TheVariants.{Flag}
use Rattle.ped_versions.specs.Flags.{flagged}
use Rattle.ped_versions.specs.Holding.{tree_of}
use Rattle.ped_versions.specs.States.{State}
use Rattle.ped_versions.proofs.Accepted.{changed_by}
use Rattle.ped_versions.proofs.FlagWays.{few_numbers, flag_held, flag_pushed}
use Rattle.ped_versions.proofs.PresentProgram.{only_version}
use Rattle.ped_versions.proofs.versions.Versions.change_flag.Goals as goal

pub set_flag-requires : goal.set_flag-requires
set_flag-requires g c = few_numbers (tree_of c.self.inside.present) c.self.invariant.version.valid

pub invariant_of-self-2 : goal.invariant_of-self-2
invariant_of-self-2 g c =
    let s = c.self.inside in
    let n = c.args.number in
    let p = c.args.parallel in
    let made = c.requires in
    let same : made.tree ≡ tree_of s.present = only_version s.present c.self.invariant.version c.args.self.now.present (ap (λ (u : State). u.present) c.self.view_is) made.tree made.reads in
    let tree : flagged made.tree n p ≡ program_tree c.set_flag.new.program = ap (λ (x : ProgramTree). flagged x n p) same ∙ sym c.set_flag.ensures in
    flag_pushed s.present (record { program = c.set_flag.new.program; symbols = s.present.symbols; text = c.replace-other.new.dest }) s.graph s.history.past s.history.future c.reserve.new.self c.push.new.self
    c.replace-other.result c.args.change n p c.self.invariant refl c.set_flag.ensures
    (subst (λ (x : ProgramTree). flagged (flagged x n p) n (not p) ≡ x) same made.back)
    (subst IsValid tree made.valid) (c.replace-other.ensures.after ∙ made.text_is ∙ ap program_text tree)
    c.replace-other.ensures.value c.in_ok-reserve.ensures.past c.push.ensures

pub returns-clause-changes : goal.returns-clause-changes
returns-clause-changes g c =
    let s = c.self.inside in
    changed_by c.args.self.now c.args.text c.replace-other.new.dest s.present.text s.history c.reserve.new.self c.push.new.self
    (record { text = c.replace-other.result; change = c.args.change; way = Flag c.args.number (not c.args.parallel) }) s.tested 0 0
    c.replace-other.ensures.after c.push.ensures c.in_ok-reserve.ensures.past c.replace-other.ensures.value c.self.view_is refl

pub returns-in_err-reserve-clause-graph : goal.returns-in_err-reserve-clause-graph
returns-in_err-reserve-clause-graph g c t = flag_held t c.args.number c.args.parallel

pub returns-clause-graph : goal.returns-clause-graph
returns-clause-graph g c t = flag_held t c.args.number c.args.parallel
