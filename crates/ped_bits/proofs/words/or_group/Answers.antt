use Rattle.std.proofs.Common.{ℕ, List, bit_or, ap, ◌∙◌}
use Rattle.std.specs.Simd.Lanes.{put_chunk}
use Rattle.ped_bits.specs.Words.{word}
use Rattle.ped_bits.proofs.LaneWords.{put_in, put_before, put_behind}
use Rattle.ped_bits.proofs.words.or_group.Goals as goal

pub returns-clause-done : goal.returns-clause-done
returns-clause-done c j from to =
    ap (λ (xs : List ℕ). word (put_chunk c.args.at c.args.target.now xs) j) c.or_lanes.ensures
    ∙ put_in bit_or c.args.at c.args.target.now c.args.source.now c.requires.target c.requires.source j from to

pub returns-clause-before : goal.returns-clause-before
returns-clause-before c j h =
    ap (λ (xs : List ℕ). word (put_chunk c.args.at c.args.target.now xs) j) c.or_lanes.ensures
    ∙ put_before bit_or c.args.at c.args.target.now c.args.source.now c.requires.target c.requires.source j h

pub returns-clause-behind : goal.returns-clause-behind
returns-clause-behind c j h =
    ap (λ (xs : List ℕ). word (put_chunk c.args.at c.args.target.now xs) j) c.or_lanes.ensures
    ∙ put_behind bit_or c.args.at c.args.target.now c.args.source.now c.requires.target c.requires.source j h
