-- Where no statement in the body of a DO reads a scalar outside the bodies of the DO loops of it there, none does where sums are kept apart.
use Rattle.std.proofs.Common.{◌≡◌, ◌⊎◌, ℕ, ◌+◌, Bool, true, false, not, ◌&&◌, ◌||◌, List, [], ◌∷◌, ◌++◌, map, Option, Some, None, refl, ap, ◌∙◌, if◌then◌else◌, inl, inr}
use Rattle.ped_base.specs.Lists.{is_same_text, is_among}
use Rattle.ped_tree.specs.Tree.{ExprTree, Int, Add, Div, Call, no_exprs, more_exprs, StmtTree, StmtTrees, Assign, If, Do, Print, Read, Stop, Comment, no_stmts, more_stmts}
use Rattle.ped_tree.specs.declared.expressions.Intrinsic.TheVariants.{Mod}
use Rattle.ped_tree.specs.Numbering.{statement_count, statements_count}
use Rattle.ped_rules.specs.ped_flow.specs.Events.{reads, Event, event, scalars_in, reads_of, left_events, own_events, is_overwriting}
use Rattle.ped_rules.specs.ped_flow.specs.Kept.{reader_in, first_reader, unless, first_outside, all_first_outside}
use Rattle.ped_rules.specs.ped_flow.specs.Summaries.{least_of}
use Rattle.ped_rules.specs.ped_flow.proofs.Truths.{or_none}
use Rattle.ped_rules.specs.ped_steps.specs.Replacing.{followed, alone}
use Rattle.ped_reduce.specs.Lists.{listed_name, unless_named, without_list}
use Rattle.ped_reduce.specs.Sums.{Sum}
use Rattle.ped_reduce.specs.Lowering.{Partials, at, zeros, with_sum, added_apart, sum_apart, summed, all_summed}
use Rattle.ped_reduce.proofs.Resembling.{scalars_of}
use Rattle.ped_reduce.proofs.SumShapes.{operand, IsApart, IsBare, apart_or_bare}
use Rattle.ped_reduce.proofs.LesserPaths.{none_both, both_none, is_some, touches, renamed, own_renamed}
use Rattle.ped_reduce.proofs.LoweredPaths.{element_touches, with_none, element_none, neither, operand_less}

module _ (cs : List (List ℕ)) (w : List ℕ) where
  quiet_reader : (es : List Event) → touches w es ≡ false → first_reader w es ≡ None
  quiet_reader [] h = refl
  quiet_reader (e ∷ es) h =
      let p = or_none (is_same_text w e.scalar) (touches w es) h in
      both_none (reader_in w e) (first_reader w es) (ap (λ (b : Bool). if b && not (is_overwriting e.manner) then Some e.statement else None) p.0) (quiet_reader es p.1)

  no_reader : (b : Bool) (n : ℕ) → (if b && true then Some n else None) ≡ None → b ≡ false
  no_reader true n h = is_some h
  no_reader false n h = refl

  reader_among : (n : ℕ) (xs : List (List ℕ)) (es : List Event) → first_reader w (reads_of n xs ++ es) ≡ None → is_among w xs ≡ false
  reader_among n [] es h = refl
  reader_among n (x ∷ xs) es h =
      let p = none_both (reader_in w (event n reads x)) (first_reader w (reads_of n xs ++ es)) h in
      λ i. no_reader (is_same_text w x) n p.0 i || reader_among n xs es p.1 i

  renamed_reader : (m : ℕ) (e : Event) → reader_in w e ≡ None → reader_in w (renamed w cs m e) ≡ None
  renamed_reader m e h = by (is_same_text w e.scalar && not (is_overwriting e.manner)) h
    where
      by : (b : Bool) → (if b then Some e.statement else None) ≡ None → (if b then Some m else None) ≡ None
      by true h = is_some h
      by false h = refl

  renamed_readers : (m : ℕ) (es : List Event) → first_reader w es ≡ None → first_reader w (map (renamed w cs m) es) ≡ None
  renamed_readers m [] h = refl
  renamed_readers m (e ∷ es) h =
      let p = none_both (reader_in w e) (first_reader w es) h in
      both_none (reader_in w (renamed w cs m e)) (first_reader w (map (renamed w cs m) es)) (renamed_reader m e p.0) (renamed_readers m es p.1)

  own_unread : (s : StmtTree) (n m : ℕ) → first_reader w (own_events cs n s) ≡ None → first_reader w (own_events cs m s) ≡ None
  own_unread s n m h = ap (first_reader w) (own_renamed w cs s n m) ∙ renamed_readers m (own_events cs n s) h

  unless_none : (b : Bool) (x y : Option ℕ) → (x ≡ None → y ≡ None) → unless b x ≡ None → unless b y ≡ None
  unless_none true x y more h = refl
  unless_none false x y more h = more h

  -- under other numbers
  mutual
    any_unread : (s : StmtTree) (n m : ℕ) → first_outside cs w s n ≡ None → first_outside cs w s m ≡ None
    any_unread (Assign left right) n m h = own_unread (Assign left right) n m h
    any_unread (If c a b) n m h =
        let p = none_both (first_reader w (own_events cs n (If c a b))) (least_of (all_first_outside cs w a (n + 1)) (all_first_outside cs w b (n + 1 + statements_count a))) h in
        let q = none_both (all_first_outside cs w a (n + 1)) (all_first_outside cs w b (n + 1 + statements_count a)) p.1 in
        both_none (first_reader w (own_events cs m (If c a b))) (least_of (all_first_outside cs w a (m + 1)) (all_first_outside cs w b (m + 1 + statements_count a))) (own_unread (If c a b) n m p.0)
        (both_none (all_first_outside cs w a (m + 1)) (all_first_outside cs w b (m + 1 + statements_count a)) (all_any_unread a (n + 1) (m + 1) q.0) (all_any_unread b (n + 1 + statements_count a) (m + 1 + statements_count a) q.1))
    any_unread (Do h body) n m k =
        let p = none_both (first_reader w (own_events cs n (Do h body))) (unless (is_same_text w h.variable) (all_first_outside cs w body (n + 1))) k in
        both_none (first_reader w (own_events cs m (Do h body))) (unless (is_same_text w h.variable) (all_first_outside cs w body (m + 1))) (own_unread (Do h body) n m p.0)
        (unless_none (is_same_text w h.variable) (all_first_outside cs w body (n + 1)) (all_first_outside cs w body (m + 1)) (all_any_unread body (n + 1) (m + 1)) p.1)
    any_unread (Print items) n m h = own_unread (Print items) n m h
    any_unread (Read items) n m h = own_unread (Read items) n m h
    any_unread Stop n m h = refl
    any_unread (Comment text) n m h = refl

    pub all_any_unread : (ss : StmtTrees) (n m : ℕ) → all_first_outside cs w ss n ≡ None → all_first_outside cs w ss m ≡ None
    all_any_unread no_stmts n m h = refl
    all_any_unread (more_stmts s rest) n m h =
        let p = none_both (first_outside cs w s n) (all_first_outside cs w rest (n + statement_count s)) h in
        both_none (first_outside cs w s m) (all_first_outside cs w rest (m + statement_count s)) (any_unread s n m p.0) (all_any_unread rest (n + statement_count s) (m + statement_count s) p.1)

  -- statements one behind the other
  followed_unread : (a b : StmtTrees) (m : ℕ) → all_first_outside cs w a m ≡ None → ((k : ℕ) → all_first_outside cs w b k ≡ None) → all_first_outside cs w (followed a b) m ≡ None
  followed_unread no_stmts b m h k = k m
  followed_unread (more_stmts s a) b m h k =
      let p = none_both (first_outside cs w s m) (all_first_outside cs w a (m + statement_count s)) h in
      both_none (first_outside cs w s m) (all_first_outside cs w (followed a b) (m + statement_count s)) p.0 (followed_unread a b (m + statement_count s) p.1 k)

  alone_unread : (s : StmtTree) (m : ℕ) → first_outside cs w s m ≡ None → all_first_outside cs w (alone s) m ≡ None
  alone_unread s m h = both_none (first_outside cs w s m) None h refl

  module _ (v : List ℕ) (ps : List Partials) (unsummed : is_among w (scalars_of ps) ≡ false) (other : is_same_text w v ≡ false) where
    element_unread : (n : ℕ) (array : List ℕ) (e : ExprTree) → is_among w (scalars_in cs e) ≡ false → first_reader w (own_events cs n (Assign (at array v) e)) ≡ None
    element_unread n array e h = quiet_reader (own_events cs n (Assign (at array v) e)) (element_touches cs w v ps unsummed other n array e h)

    three : (a b c d : Option ℕ) → a ≡ None → b ≡ None → c ≡ None → d ≡ None → least_of a (least_of b (least_of c d)) ≡ None
    three a b c d h k l m = both_none a (least_of b (least_of c d)) h (both_none b (least_of c d) k (both_none c d l m))

    zeros_unread : (qs : List Partials) (m : ℕ) → all_first_outside cs w (zeros v qs) m ≡ None
    zeros_unread [] m = refl
    zeros_unread (p ∷ qs) m =
        three (first_reader w (own_events cs m (Assign (at p.high v) (Int 0)))) (first_reader w (own_events cs (m + 1) (Assign (at p.low v) (Int 0)))) (first_reader w (own_events cs (m + 1 + 1) (Assign (at p.flag v) (Int 0))))
        (all_first_outside cs w (zeros v qs) (m + 1 + 1 + 1)) (element_unread m p.high (Int 0) refl) (element_unread (m + 1) p.low (Int 0) refl) (element_unread (m + 1 + 1) p.flag (Int 0) refl) (zeros_unread qs (m + 1 + 1 + 1))

    apart_unread : (p : Partials) (sum : Sum) (m : ℕ) → is_among w (scalars_in cs (operand sum)) ≡ false → all_first_outside cs w (added_apart v p sum) m ≡ None
    apart_unread p sum m h =
        let low = with_none cs w v ps unsummed other p.low sum h in
        let one = neither cs w v ps unsummed other (scalars_in cs (with_sum (at p.low v) sum)) [] low refl in
        let high = neither cs w v ps unsummed other (scalars_in cs (at p.high v)) (scalars_in cs (with_sum (at p.low v) sum) ++ []) (element_none cs w v ps unsummed other p.high) one in
        let e = Add (at p.high v) (Div (with_sum (at p.low v) sum) (Int 65536)) in
        let g = Call Mod (more_exprs (with_sum (at p.low v) sum) (more_exprs (Int 65536) no_exprs)) in
        three (first_reader w (own_events cs m (Assign (at p.high v) e))) (first_reader w (own_events cs (m + 1) (Assign (at p.low v) g))) (first_reader w (own_events cs (m + 1 + 1) (Assign (at p.flag v) (Int 1)))) None
        (element_unread m p.high e high) (element_unread (m + 1) p.low g one) (element_unread (m + 1 + 1) p.flag (Int 1) refl) refl

    assigned_unread : (left right : ExprTree) (n m : ℕ) (ws : StmtTrees) → IsApart v ps left right ws ⊎ IsBare ps left right ws → first_outside cs w (Assign left right) n ≡ None → all_first_outside cs w ws m ≡ None
    assigned_unread left right n m ws (inl a) h =
        ap (λ (ts : StmtTrees). all_first_outside cs w ts m) a.is
        ∙ apart_unread a.partials a.sum m (operand_less cs w v ps unsummed other a.partials.scalar left right a.sum a.of (reader_among n (scalars_in cs right) (left_events cs n left) h))
    assigned_unread left right n m ws (inr b) h = ap (λ (ts : StmtTrees). all_first_outside cs w ts m) b.is ∙ alone_unread (Assign left right) m (own_unread (Assign left right) n m h)

    mutual
      summed_unread : (s : StmtTree) (n m : ℕ) → first_outside cs w s n ≡ None → all_first_outside cs w (summed v ps s) m ≡ None
      summed_unread (Assign left right) n m h = assigned_unread left right n m (sum_apart v ps (Assign left right)) (apart_or_bare v left right ps) h
      summed_unread (If c a b) n m h =
          let x = all_summed v ps a in
          let y = all_summed v ps b in
          let p = none_both (first_reader w (own_events cs n (If c a b))) (least_of (all_first_outside cs w a (n + 1)) (all_first_outside cs w b (n + 1 + statements_count a))) h in
          let q = none_both (all_first_outside cs w a (n + 1)) (all_first_outside cs w b (n + 1 + statements_count a)) p.1 in
          alone_unread (If c x y) m
          (both_none (first_reader w (own_events cs m (If c a b))) (least_of (all_first_outside cs w x (m + 1)) (all_first_outside cs w y (m + 1 + statements_count x))) (own_unread (If c a b) n m p.0)
          (both_none (all_first_outside cs w x (m + 1)) (all_first_outside cs w y (m + 1 + statements_count x)) (all_summed_unread a (n + 1) (m + 1) q.0) (all_summed_unread b (n + 1 + statements_count a) (m + 1 + statements_count x) q.1)))
      summed_unread (Do h body) n m k =
          let x = all_summed v ps body in
          let p = none_both (first_reader w (own_events cs n (Do h body))) (unless (is_same_text w h.variable) (all_first_outside cs w body (n + 1))) k in
          alone_unread (Do h x) m
          (both_none (first_reader w (own_events cs m (Do h body))) (unless (is_same_text w h.variable) (all_first_outside cs w x (m + 1))) (own_unread (Do h body) n m p.0)
          (unless_none (is_same_text w h.variable) (all_first_outside cs w body (n + 1)) (all_first_outside cs w x (m + 1)) (all_summed_unread body (n + 1) (m + 1)) p.1))
      summed_unread (Print items) n m h = alone_unread (Print items) m (own_unread (Print items) n m h)
      summed_unread (Read items) n m h = alone_unread (Read items) m (own_unread (Read items) n m h)
      summed_unread Stop n m h = refl
      summed_unread (Comment text) n m h = refl

      all_summed_unread : (ss : StmtTrees) (n m : ℕ) → all_first_outside cs w ss n ≡ None → all_first_outside cs w (all_summed v ps ss) m ≡ None
      all_summed_unread no_stmts n m h = refl
      all_summed_unread (more_stmts s rest) n m h =
          let p = none_both (first_outside cs w s n) (all_first_outside cs w rest (n + statement_count s)) h in
          followed_unread (summed v ps s) (all_summed v ps rest) m (summed_unread s n m p.0) (λ k. all_summed_unread rest (n + statement_count s) k p.1)

    without_unread : (ss : StmtTrees) (n m : ℕ) → all_first_outside cs w ss n ≡ None → all_first_outside cs w (without_list ss) m ≡ None
    without_unread no_stmts n m h = refl
    without_unread (more_stmts (Comment text) rest) n m h = by (listed_name text) (without_unread rest (n + 0) m h)
      where
        by : (o : Option (List ℕ)) → all_first_outside cs w (without_list rest) m ≡ None → all_first_outside cs w (unless_named o (more_stmts (Comment text) rest) (without_list rest)) m ≡ None
        by None k = all_any_unread (more_stmts (Comment text) rest) n m h
        by (Some x) k = k
    without_unread (more_stmts (Assign left right) rest) n m h = all_any_unread (more_stmts (Assign left right) rest) n m h
    without_unread (more_stmts (If c a b) rest) n m h = all_any_unread (more_stmts (If c a b) rest) n m h
    without_unread (more_stmts (Do g body) rest) n m h = all_any_unread (more_stmts (Do g body) rest) n m h
    without_unread (more_stmts (Print items) rest) n m h = all_any_unread (more_stmts (Print items) rest) n m h
    without_unread (more_stmts (Read items) rest) n m h = all_any_unread (more_stmts (Read items) rest) n m h
    without_unread (more_stmts Stop rest) n m h = all_any_unread (more_stmts Stop rest) n m h

    pub body_unread : (body : StmtTrees) (n m : ℕ) → all_first_outside cs w body n ≡ None → all_first_outside cs w (followed (zeros v ps) (all_summed v ps (without_list body))) m ≡ None
    body_unread body n m h = followed_unread (zeros v ps) (all_summed v ps (without_list body)) m (zeros_unread ps m) (λ k. all_summed_unread (without_list body) n k (without_unread body n n h))
