use Rattle.std.proofs.Common.{refl}
use Rattle.ped_verdict.proofs.Sighted.{all_solved, solved_all}
use Rattle.ped_verdict.proofs.sights.is_solved.Goals as goal

pub returns : goal.returns
returns c = (λ t. all_solved c.args.position.now _ c.gcd_excludes.result refl c.gcd_excludes.ensures t, λ h. solved_all c.args.position.now _ c.gcd_excludes.result refl c.gcd_excludes.ensures h)
