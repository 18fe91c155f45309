-- The units of a DO have one list of pi-blocks.
use Rattle.std.proofs.Common.{◌≡◌, ℕ, ◌<◌, List, [], length, Bool, true, false, IsTrue, refl, sym, ap, ◌∙◌, subst}
use Rattle.std.proofs.lemmas.List.{ext_get_or}
use Rattle.ped_bits.specs.Reaching.{row_of}
use Rattle.ped_tree.specs.Tree.{Head, StmtTrees, ProgramTree}
use Rattle.ped_edges.specs.Edges.{Edge}
use Rattle.ped_rules.specs.ped_graph.proofs.OnePane.{one_edges}
use Rattle.ped_rules.specs.ped_flow.specs.Questions.{LoopOf}
use Rattle.ped_rules.specs.ped_flow.proofs.Answering.{same_head, same_body}
use Rattle.ped_splits.specs.Units.{arrows, IsClosure}
use Rattle.ped_splits.specs.PiBlocks.{pi_blocks, ArePiBlocks}

pub same_truth : (x y : Bool) → (IsTrue x → IsTrue y) → (IsTrue y → IsTrue x) → x ≡ y
same_truth true y f g = sym (f refl)
same_truth false true f g = g refl
same_truth false false f g = refl

-- what arrows reach is one
pub one_closure : (rows a b : List (List Bool)) → IsClosure rows a → IsClosure rows b → a ≡ b
one_closure rows a b p q = ext_get_or [] a b long each
  where
    long : length a ≡ length b
    long = p.width ∙ sym q.width

    each : (i : ℕ) → i < length a → row_of a i ≡ row_of b i
    each i h =
        ext_get_or false (row_of a i) (row_of b i) (p.square i h ∙ long ∙ sym (q.square i (subst (λ (n : ℕ). i < n) long h)))
        (λ j k. same_truth _ _ (λ x. (q.reaches i j).1 ((p.reaches i j).0 x)) (λ x. (p.reaches i j).1 ((q.reaches i j).0 x)))

pub one_blocks : (t : ProgramTree) (s : ℕ) (h : Head) (body : StmtTrees) (a b : List (List ℕ)) → ArePiBlocks t s h body a → ArePiBlocks t s h body b → a ≡ b
one_blocks t s h body a b p q =
    let edges = one_edges t p.edges q.edges p.are q.are in
    let closed = subst (λ (es : List Edge). IsClosure (arrows t s h body es) p.reach) edges p.closed in
    p.order ∙ ap pi_blocks (one_closure (arrows t s h body q.edges) p.reach q.reach closed q.closed) ∙ sym q.order

-- and the DO with a number is one
pub blocks_there : (t : ProgramTree) (s : ℕ) (l m : LoopOf t s) (a : List (List ℕ)) → ArePiBlocks t s l.head l.body a → ArePiBlocks t s m.head m.body a
blocks_there t s l m a p =
    subst (λ (h : Head). ArePiBlocks t s h m.body a) (same_head t s l.head m.head l.body m.body l.is m.is)
    (subst (λ (body : StmtTrees). ArePiBlocks t s l.head body a) (same_body t s l.head m.head l.body m.body l.is m.is) p)

pub one_found : (t : ProgramTree) (s : ℕ) (l m : LoopOf t s) (a b : List (List ℕ)) → ArePiBlocks t s l.head l.body a → ArePiBlocks t s m.head m.body b → a ≡ b
one_found t s l m a b p q = one_blocks t s m.head m.body a b (blocks_there t s l m a p) q
