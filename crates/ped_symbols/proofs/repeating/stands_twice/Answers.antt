use Rattle.std.proofs.Common.{◌≡◌, [], ◌∷◌, ◌++◌, ◌+◌, Bool, false, drop, arith, sym, ap, ◌∙◌, if◌then◌else◌}
use Rattle.std.specs.Prelude.{◌||◌}
use Rattle.std.proofs.lemmas.Grind.{common_steps}
use Rattle.ped_base.specs.Lists.{is_among}
use Rattle.ped_symbols.specs.NameRefusals.{has_twice}
use Rattle.ped_symbols.proofs.Repeats.{has_one_of, none_of, twice_more}
use Rattle.ped_symbols.proofs.repeating.stands_twice.Goals as goal

pub loop-name-init : goal.loop-name-init
loop-name-init c =
    ap (λ seen. has_one_of seen c.args.names.now || has_twice c.args.names.now) c.new-seen.ensures
    ∙ ap (λ r. r || has_twice c.args.names.now) (none_of c.args.names.now)

pub loop-name-preserved : goal.loop-name-preserved
loop-name-preserved c =
    let i = c.loop-name.name-index in
    let all = c.args.names.now in
    let x = c.name-item.result in
    let seen = c.loop-name.seen in
    let first : drop i all ≡ x ∷ drop (i + 1) all = grind (arith, common_steps) in
    let absent : is_among x seen ≡ false = sym c.contains.ensures ∙ c.if-contains.false in
    twice_more seen c.insert.new.self x (drop (i + 1) all) (has_twice all) absent
    (c.in_ok-insert.ensures.ok ∙ ap (λ (r : Bool). if r then seen else seen ++ x ∷ []) absent)
    (ap (λ names. has_one_of seen names || has_twice names) (sym first) ∙ c.loop-name.invariant)
