use Rattle.ped_answer.proofs.MadeRuns.{Laws}
use Rattle.ped_answer.proofs.ScriptRuns.{request_runs}
use Rattle.ped_answer.proofs.headline.runs_are_as_before.Goals as goal

pub returns : goal.returns
returns c =
    let laws : Laws = record {
      begins = c.transformations_keep_the_meaning.ensures.opened;
      keep = c.transformations_keep_the_meaning.ensures.step;
      agree = c.interleavings_keep_the_meaning.ensures.trusted;
      as_it_is = c.made_programs_have_no_list.ensures.runs;
      trusted = c.made_programs_are_trusted.ensures.trusted;
      race_free = c.made_programs_are_trusted.ensures.race_free;
      in_order = c.without_choices.ensures;
    } in
    request_runs c.runs_are_as_before.ensures
    (λ s kept. (
      (λ earlier t u data_bytes choices o. c.interleavings_keep_the_meaning.ensures.trusted s earlier t u data_bytes choices o kept),
      (λ earlier t u data_bytes choices o. c.interleavings_keep_the_meaning.ensures.true_on s earlier t u data_bytes choices o kept),
    )) laws
