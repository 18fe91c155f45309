use Rattle.std.proofs.Common.{◌≡◌, ℕ, List, [], ◌≤◌, ◌+◌, IfSome, drop, length, sym, ap, subst, ◌∙◌, arith}
use Rattle.std.proofs.lemmas.List.{drop_all}
use Rattle.std.proofs.lemmas.Map.Entries.{All-lookup}
use Rattle.ped_base.specs.Lists.{is_same_text}
use Rattle.ped_tree.specs.NamesIn.{stmts_names, first_occurrences}
use Rattle.ped_tree.specs.Views.{stmt_trees}
use Rattle.ped_tree.specs.declared.statements.Stmt.{Stmt}
use Rattle.ped_tree.specs.Constants.NamedConstants.{value_named}
use Rattle.ped_links.specs.ped_symbols.proofs.RightUseLaws.Found.{found_in_program}
use Rattle.ped_links.specs.ped_symbols.specs.Entries.{entry_of}
use Rattle.ped_links.specs.ped_symbols.specs.Kinds.{Table, at_last, kind_in}
use Rattle.ped_links.specs.ped_units.specs.Refusals.{for_names}
use Rattle.ped_links.specs.ped_units.specs.Units.{all_with_calls}
use Rattle.ped_links.specs.ped_units.specs.Expanding.{Renamed, constants_of, naming_arguments, body_names, renamed}
use Rattle.ped_calls.specs.Binding.{StandAlike, named_one}
use Rattle.ped_calls.specs.Giving.{given_of, IsSmall, HasSmallKind}
use Rattle.ped_calls.specs.Meaning.{meanings_of}
use Rattle.ped_links.specs.ped_units.specs.Views.{program_unit_of}
use Rattle.ped_calls.proofs.BoundArguments.{first_left}
use Rattle.ped_calls.proofs.NamedAlike.{with_literals, names_first, names_more, names_last, given_last}
use Rattle.ped_calls.proofs.SmallKinds.{small_constants, small_in_table}
use Rattle.ped_calls.proofs.binding.add_names.Goals as goal

pub loop-name-init : goal.loop-name-init
loop-name-init c = record {
  names = names_first (program_unit_of c.args.unit.now) c.as_slice-name-items.result.now (meanings_of c.args.meanings.now) (given_of c.args.given.now);
  next = c.requires.next;
}

pub add_name-requires-clause-constant : goal.add_name-requires-clause-constant
add_name-requires-clause-constant c =
    let t = for_names (program_unit_of c.args.unit.now) in
    let x = c.name-item.result in
    subst (λ (t : Table). IfSome (value_named t.constants x) IsSmall) (sym c.requires.table) (All-lookup IsSmall (is_same_text x) (at_last t).values (small_constants t))

pub add_name-requires-clause-kind : goal.add_name-requires-clause-kind
add_name-requires-clause-kind c =
    subst (λ (x : Table). HasSmallKind (entry_of x.kinds c.name-item.result)) (sym c.requires.table) (small_in_table (for_names (program_unit_of c.args.unit.now)) c.name-item.result)

pub loop-name-preserved : goal.loop-name-preserved
loop-name-preserved c =
    let u = program_unit_of c.args.unit.now in
    let names = c.as_slice-name-items.result.now in
    let x = c.name-item.result in
    let r : Renamed = record { meanings = meanings_of c.loop-name.meanings; given = given_of c.loop-name.given } in
    let next : Renamed = record { meanings = meanings_of c.add_name.new.meanings; given = given_of c.add_name.new.given } in
    let kind : entry_of c.args.table.now.kinds x ≡ kind_in (for_names u) x = ap (λ (t : Table). entry_of t.kinds x) c.requires.table ∙ found_in_program (for_names u) x in
    let constants : c.args.table.now.constants ≡ constants_of u = ap (λ (t : Table). t.constants) c.requires.table in
    let step : next ≡ named_one c.args.table.now.constants x (entry_of c.args.table.now.kinds x) r = λ i. record { meanings = c.in_ok-add_name.ensures.meanings i; given = c.in_ok-add_name.ensures.given i } in
    record {
      names = names_more u names (with_literals u (meanings_of c.args.meanings.now) (given_of c.args.given.now)) (drop c.loop-name.name-index names) x (drop (c.loop-name.name-index + 1) names) r next
          c.loop-name.invariant.names (first_left names c.loop-name.name-index x c.loop-name-test.true c.name-item.is)
          (step ∙ (λ i. named_one (constants i) x (kind i) r));
      next = c.in_ok-add_name.ensures.next;
    }

pub returns-clause-meanings : goal.returns-clause-meanings
returns-clause-meanings c =
    let u = program_unit_of c.args.unit.now in
    let names = c.as_slice-name-items.result.now in
    let body : c.deref.result.now ≡ c.args.unit.now.program.body.items = cc (c.deref.ensures.value) in
    let of_body : names ≡ body_names u = c.as_slice-name-items.ensures ∙ c.in_ok-names.ensures ∙ ap (λ (ss : List Stmt). first_occurrences [] (stmts_names (all_with_calls naming_arguments (stmt_trees ss)))) body in
    let first = with_literals u (meanings_of c.args.meanings.now) (given_of c.args.given.now) in
    let ended : length names ≤ c.loop-name.name-index = omega (arith, c.loop-name-test.false, c.loop-name.auto.name-index-end) in
    let now : Renamed = record { meanings = meanings_of c.loop-name.meanings; given = given_of c.loop-name.given } in
    let last = names_last u names first (drop c.loop-name.name-index names) now c.loop-name.invariant.names (drop_all c.loop-name.name-index names ended) in
    subst (λ (xs : List (List ℕ)). StandAlike xs now.meanings (renamed u xs first).meanings) of_body last

pub returns-clause-given : goal.returns-clause-given
returns-clause-given c =
    let u = program_unit_of c.args.unit.now in
    let names = c.as_slice-name-items.result.now in
    let body : c.deref.result.now ≡ c.args.unit.now.program.body.items = cc (c.deref.ensures.value) in
    let of_body : names ≡ body_names u = c.as_slice-name-items.ensures ∙ c.in_ok-names.ensures ∙ ap (λ (ss : List Stmt). first_occurrences [] (stmts_names (all_with_calls naming_arguments (stmt_trees ss)))) body in
    let first = with_literals u (meanings_of c.args.meanings.now) (given_of c.args.given.now) in
    let ended : length names ≤ c.loop-name.name-index = omega (arith, c.loop-name-test.false, c.loop-name.auto.name-index-end) in
    let now : Renamed = record { meanings = meanings_of c.loop-name.meanings; given = given_of c.loop-name.given } in
    given_last u names first (drop c.loop-name.name-index names) now c.loop-name.invariant.names (drop_all c.loop-name.name-index names ended)
    ∙ ap (λ (xs : List (List ℕ)). (renamed u xs first).given) of_body
