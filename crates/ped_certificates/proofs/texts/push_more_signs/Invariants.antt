use Rattle.std.proofs.Common.{◌≡◌, ◌++◌, drop, codes}
use Rattle.std.specs.List.{flat_map}
use Rattle.ped_certificates.specs.PairTexts.{sign_text}
use Rattle.ped_certificates.proofs.texts.push_more_signs.Given as goal

abbrev pub invariant-loop-sign : goal.invariant-loop-sign
invariant-loop-sign l = l.text ++ flat_map (λ sign. codes "," ++ sign_text sign) (drop l.sign-index l.signs) ≡ l.fn.text ++ flat_map (λ sign. codes "," ++ sign_text sign) l.signs
