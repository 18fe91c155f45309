use Rattle.std.proofs.Common.{ℕ, List, bit_and, w64, ap, ◌∙◌}
use Rattle.std.specs.Int.{bit_not}
use Rattle.std.specs.Simd.Lanes.{put_chunk}
use Rattle.ped_bits.specs.Words.{word}
use Rattle.ped_bits.proofs.LaneWords.{put_in, put_before, put_behind}
use Rattle.ped_bits.proofs.words.clear_group.Goals as goal

pub returns-clause-done : goal.returns-clause-done
returns-clause-done c j from to =
    ap (λ (xs : List ℕ). word (put_chunk c.args.at c.args.target.now xs) j) c.and_not_lanes.ensures
    ∙ put_in (λ x y. bit_and x (bit_not w64 y)) c.args.at c.args.target.now c.args.source.now c.requires.target c.requires.source j from to

pub returns-clause-before : goal.returns-clause-before
returns-clause-before c j h =
    ap (λ (xs : List ℕ). word (put_chunk c.args.at c.args.target.now xs) j) c.and_not_lanes.ensures
    ∙ put_before (λ x y. bit_and x (bit_not w64 y)) c.args.at c.args.target.now c.args.source.now c.requires.target c.requires.source j h

pub returns-clause-behind : goal.returns-clause-behind
returns-clause-behind c j h =
    ap (λ (xs : List ℕ). word (put_chunk c.args.at c.args.target.now xs) j) c.and_not_lanes.ensures
    ∙ put_behind (λ x y. bit_and x (bit_not w64 y)) c.args.at c.args.target.now c.args.source.now c.requires.target c.requires.source j h
