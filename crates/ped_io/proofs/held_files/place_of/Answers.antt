use Rattle.std.proofs.Common.{rules, ◌≡◌, ap, ◌∙◌, length, position, unwrap_or}
use Rattle.ped_io.proofs.Places.{unwrap_or-position}
use Rattle.ped_base.specs.Lists.{is_same_text}
use Rattle.ped_io.proofs.held_files.place_of.Goals as goal

pub returns : goal.returns
returns c =
    let files = c.args.files.now in
    let has_name = λ (file : _). is_same_text file.0 c.args.name.now in
    let first : c.first_of.result ≡ position has_name files = search rules in
    c.unwrap_or.ensures
    ∙ ap (λ len. unwrap_or c.first_of.result len) c.len.ensures
    ∙ ap (λ place. unwrap_or place (length files)) first
    ∙ unwrap_or-position has_name files
