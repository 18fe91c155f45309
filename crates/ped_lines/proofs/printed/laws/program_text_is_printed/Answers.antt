use Rattle.ped_lines.proofs.PrintedLaws.Bridge
use Rattle.ped_lines.proofs.printed.laws.program_text_is_printed.Goals as goal

pub returns : goal.returns
returns c = Bridge.printed_program
