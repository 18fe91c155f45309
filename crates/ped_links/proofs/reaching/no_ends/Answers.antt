use Rattle.std.proofs.Common.{ℕ, List, ◌++◌, [], ◌∷◌, ap, ◌∙◌}
use Rattle.std.proofs.lemmas.List.{map_push, replicate_more}
use Rattle.std.specs.Global.{Vec}
use Rattle.ped_links.specs.Reaching.{ends_in}
use Rattle.ped_links.proofs.reaching.no_ends.Goals as goal

pub loop-preserved : goal.loop-preserved
loop-preserved c =
    ap ends_in c.in_ok-push.ensures.items
    ∙ map_push (λ (v : Vec ℕ). v.items) c.loop.ends.items c.new.result
    ∙ ap (λ (e : List ℕ). ends_in c.loop.ends.items ++ e ∷ []) c.new.ensures.items
    ∙ ap (λ (es : List (List ℕ)). es ++ [] ∷ []) c.loop.invariant
    ∙ replicate_more c.loop.counter []
