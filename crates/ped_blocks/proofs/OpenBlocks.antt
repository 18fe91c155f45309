-- The innermost block, and the last condition, stand at the end of their vectors.
use Rattle.std.proofs.Common.{◌≡◌, ℕ, List, [], ◌∷◌, ◌++◌, map, true, false, Some, refl, ap, ◌∙◌, arith, eqb}
use Rattle.std.specs.Prelude.{reverse}
use Rattle.std.proofs.lemmas.List.{map_push, reverse-append}
use Rattle.ped_tree.specs.Tree.{Head, StmtTree, Do}
use Rattle.ped_tree.specs.Views.{pack_stmts}
use Rattle.ped_blocks.specs.Machine.{Frame, then_frame, else_frame, do_frame, nest, close_loops}
use Rattle.ped_blocks.specs.BlockViews.{arm_of, arms_of, frame_of, blocks_of, ends_at}

eqb_same : (l : ℕ) → eqb l l ≡ true
eqb_same l = grind arith

pub last_arm : (arms : List _) (a : _) → arms_of (arms ++ a ∷ []) ≡ arm_of a ∷ arms_of arms
unfolding arms_of
last_arm arms a = ap reverse (map_push arm_of arms a) ∙ reverse-append (map arm_of arms) (arm_of a ∷ [])

pub last_block : (frames : List _) (f : _) → blocks_of (frames ++ f ∷ []) ≡ frame_of f ∷ blocks_of frames
unfolding blocks_of
last_block frames f = ap reverse (map_push frame_of frames f) ∙ reverse-append (map frame_of frames) (frame_of f ∷ [])

pub no_arms : arms_of [] ≡ []
unfolding arms_of
no_arms = refl

pub no_blocks : blocks_of [] ≡ []
unfolding blocks_of
no_blocks = refl

-- a block that does not end at the label stays open
pub stays_open : (l : ℕ) (f : Frame) (frames : List Frame) (current : List StmtTree) → ends_at l f ≡ false → close_loops l (f ∷ frames) current ≡ nest (f ∷ frames) current
stays_open l (then_frame before arms c) frames current e = refl
stays_open l (else_frame before arms) frames current e = refl
stays_open l (do_frame before m h) frames current e = rw e refl

-- a loop with the label ends
pub ends_here : (l : ℕ) (h : Head) (before : List StmtTree) (all frames : List Frame) (f : Frame) (current next : List StmtTree) → all ≡ f ∷ frames → f ≡ do_frame before (Some l) h → next ≡ before ++ Do h (pack_stmts current) ∷ [] → close_loops l frames next ≡ close_loops l all current
ends_here l h before all frames f current next a b c = rw (a, b, c, eqb_same l) refl
