-- Lowering goes from statement to statement, and comes to one end.
use Rattle.std.proofs.Common.{◌≡◌, ◌≤◌, ◌<◌, ℕ, zero, suc, ◌+◌, ◌*◌, List, [], ◌∷◌, ◌++◌, length, take, drop, replicate, All, Bool, true, false, inl, inr, Some, None, refl, sym, ap, ◌∙◌, subst, arith}
use Rattle.std.specs.List.{range_with_len}
use Rattle.std.proofs.lemmas.Bool.{both_ways}
use Rattle.std.proofs.lemmas.List.Elements.{All-nil, All-same, All-replicate, All-append, All-take, All-drop, All-from_get_or}
use Rattle.std.proofs.lemmas.List.FromFn.{length-range_with_len, get_or-range_with_len}
use Rattle.ped_tree.specs.Tree.{Head, StmtTree, StmtTrees, Do, ProgramTree}
use Rattle.ped_tree.specs.Numbering.{all_numbered, statements_count}
use Rattle.ped_tree.proofs.Numbers.{length-all_numbered}
use Rattle.ped_rules.specs.ped_symbols.specs.NameRefusals.{IsValid}
use Rattle.ped_rules.specs.ped_flow.specs.Questions.{IsLoop, LoopOf}
use Rattle.ped_rules.specs.ped_flow.proofs.Answering.{loop_fits}
use Rattle.ped_rules.proofs.OneLoop.{one_loop}
use Rattle.ped_reduce.specs.Lists.{list_of, has_list}
use Rattle.ped_reduce.specs.Lowering.{Partials, Lowered, not_lowered, repeated, is_sum, summed_origins, lowered_at}
use Rattle.ped_reduce.specs.Reducing.{IsLive, LowersOne, Lowers, IsLowered}
use Rattle.ped_reduce.proofs.LoweredPrograms.{IsMadeBy, made_by, made_count, made_origins}

same_lowered : (p q : Lowered) → Some p ≡ Some q → p ≡ q
same_lowered p q e = cc

module _ (t : ProgramTree) where
  -- a live list is lowered in one way
  pub one_live : (s : ℕ) (p q r : Lowered) → IsLive t s p q → IsLive t s p r → q ≡ r
  one_live s p q r a b =
      let body = (one_loop t s a.loop b.loop).1 in
      same_lowered q r (sym a.makes ∙ ap (λ (ss : StmtTrees). lowered_at true p s (list_of ss)) body ∙ b.makes)

  -- a statement is lowered in one way, or stays
  pub one_at : (s : ℕ) (p q r : Lowered) → LowersOne t s p q → LowersOne t s p r → q ≡ r
  one_at s p q r (inl a) (inl b) = one_live s p q r a b
  one_at s p q r (inl a) (inr b) = absurd (b.0 q a)
  one_at s p q r (inr a) (inl b) = absurd (a.0 r b)
  one_at s p q r (inr a) (inr b) = a.1 ∙ sym b.1

  pub one_behind : (ss : List ℕ) (p q r : Lowered) → Lowers t ss p q → Lowers t ss p r → q ≡ r
  one_behind [] p q r a b = a ∙ sym b
  one_behind (s ∷ ss) p q r a b = one_behind ss a.0 q r a.2 (subst (λ (x : Lowered). Lowers t ss x r) (one_at s p b.0 a.0 b.1 a.1) b.2)

  -- one statement more
  pub lowers_next : (ss : List ℕ) (s : ℕ) (p q r : Lowered) → Lowers t ss p q → LowersOne t s q r → Lowers t (ss ++ s ∷ []) p r
  lowers_next [] s p q r a b = (r, subst (λ (x : Lowered). LowersOne t s x r) a b, refl)
  lowers_next (x ∷ ss) s p q r a b = (a.0, a.1, lowers_next ss s a.0 q r a.2 b)

  -- a program is lowered in one way
  pub one_lowered : (q r : Lowered) → IsLowered t q → IsLowered t r → q ≡ r
  one_lowered q r = one_behind (range_with_len 1 (statements_count t.body)) (not_lowered t) q r

-- where no DO has a list, nothing is lowered
module _ (t : ProgramTree) (none : (s : ℕ) (l : LoopOf t s) → has_list l.head l.body ≡ false) where
  not_live : (s : ℕ) (p q : Lowered) → IsLive t s p q → ⊥
  not_live s p q live = both_ways (has_list live.loop.head live.loop.body) (none s live.loop) live.some

  pub stays_itself : (ss : List ℕ) (p : Lowered) → Lowers t ss p p
  stays_itself [] p = refl
  stays_itself (s ∷ ss) p = (p, inr (not_live s p, refl), stays_itself ss p)

-- each statement comes from one
module _ (t : ProgramTree) where
  one_origin : (s : ℕ) (p r : Lowered) → length p.origin ≡ statements_count p.tree.body → LowersOne t s p r → length r.origin ≡ statements_count r.tree.body
  one_origin s p r h (inl live) = made_origins true p s (list_of live.loop.body) r (made_by true p s (list_of live.loop.body) r live.makes) h
  one_origin s p r h (inr stays) = subst (λ (x : Lowered). length x.origin ≡ statements_count x.tree.body) (sym stays.1) h

  pub origins_stay : (ss : List ℕ) (p q : Lowered) → length p.origin ≡ statements_count p.tree.body → Lowers t ss p q → length q.origin ≡ statements_count q.tree.body
  origins_stay [] p q h e = subst (λ (r : Lowered). length r.origin ≡ statements_count r.tree.body) (sym e) h
  origins_stay (s ∷ ss) p q h a = origins_stay ss a.0 q (one_origin s p a.0 h a.1) a.2

  pub origins_there : (q : Lowered) → IsLowered t q → length q.origin ≡ statements_count q.tree.body
  origins_there q lowered = origins_stay (range_with_len 1 (statements_count t.body)) (not_lowered t) q (length-range_with_len 1 (statements_count t.body)) lowered

  -- what comes of a valid program is valid
  one_valid : (s : ℕ) (p r : Lowered) → IsValid p.tree → LowersOne t s p r → IsValid r.tree
  one_valid s p r v (inl live) = live.valid
  one_valid s p r v (inr stays) = subst (λ (x : Lowered). IsValid x.tree) (sym stays.1) v

  pub valid_stays : (ss : List ℕ) (p q : Lowered) → IsValid p.tree → Lowers t ss p q → IsValid q.tree
  valid_stays [] p q v e = subst (λ (r : Lowered). IsValid r.tree) (sym e) v
  valid_stays (s ∷ ss) p q v a = valid_stays ss a.0 q (one_valid s p a.0 v a.1) a.2

-- where no DO is lowered, nothing is
not_empty : (xs : List ℕ) (n : ℕ) → xs ++ n ∷ [] ≡ [] → ⊥
not_empty [] n e = cc
not_empty (x ∷ xs) n e = cc

module _ (t : ProgramTree) where
  one_itself : (s : ℕ) (p r : Lowered) → LowersOne t s p r → r.live ≡ [] → r ≡ p
  one_itself s p r (inl live) none = absurd (not_empty p.live s (sym (ap (λ (x : Lowered). x.live) (made_by true p s (list_of live.loop.body) r live.makes).made) ∙ none))
  one_itself s p r (inr stays) none = stays.1

  pub itself_stays : (ss : List ℕ) (p q : Lowered) → Lowers t ss p q → q.live ≡ [] → q ≡ p
  itself_stays [] p q e none = e
  itself_stays (s ∷ ss) p q a none =
      let same = itself_stays ss a.0 q a.2 none in
      same ∙ one_itself s p a.0 a.1 (ap (λ (x : Lowered). x.live) (sym same) ∙ none)

  pub none_live : (q : Lowered) → IsLowered t q → q.live ≡ [] → q ≡ not_lowered t
  none_live q lowered none = itself_stays (range_with_len 1 (statements_count t.body)) (not_lowered t) q lowered none

-- each statement comes from one of the program
module _ (t : ProgramTree) where
  abbrev count : ℕ
  count = statements_count t.body

  abbrev IsThere : ℕ → Type 0
  IsThere n = (1 ≤ n) × (n ≤ count)

  repeated_there : (b : Bool) (n : ℕ) → IsThere n → All IsThere (repeated b n)
  repeated_there true n there = All-replicate IsThere 3 n there
  repeated_there false n there = All-replicate IsThere 1 n there

  summed_there : (ps : List Partials) (ss : List StmtTree) (n : ℕ) → 1 ≤ n → n + length ss ≤ count + 1 → All IsThere (summed_origins ps ss n)
  summed_there ps [] n low high = All-nil IsThere
  summed_there ps (s ∷ ss) n low high =
      All-append IsThere (repeated (is_sum ps s) n) (summed_origins ps ss (n + 1))
      (repeated_there (is_sum ps s) n (low, omega (arith, high)))
      (summed_there ps ss (n + 1) (omega arith) (omega (arith, high)))

  from_one : (s : ℕ) (h : Head) (body : StmtTrees) → IsLoop t s h body → 1 ≤ s
  from_one zero h body is = let wrong : None ≡ Some (Do h body) = is in absurd cc
  from_one (suc s) h body is = omega arith

  -- so many statements have come, and each comes from one
  pub record AreThere (p : Lowered) : Type 0 where
    pub counted : statements_count p.tree.body ≡ count + p.more
    pub there : All IsThere p.origin

  made_there : (s : ℕ) (names : List (List ℕ)) (p r : Lowered) → 1 ≤ s → AreThere p → IsMadeBy true p s names r → AreThere r
  made_there s names p r low are m =
      let at = s + p.more in
      let c = statements_count m.body in
      let k = length m.partials in
      let fit = loop_fits p.tree at m.head m.body m.is in
      let before = are.counted in
      let more = ap (λ (x : Lowered). x.more) m.made in
      let behind = made_count true p s names r m in
      let long = length-all_numbered m.body in
      let there : IsThere s = (low, omega (arith, fit, before)) in
      let front = take at p.origin in
      let zeros = replicate (3 * k) s in
      let inner = summed_origins m.partials (all_numbered m.body) (s + 1) in
      let exits = replicate (2 * k + 1) s in
      let rest = drop (at + c) p.origin in
      let one = All-append IsThere front zeros (All-take IsThere at p.origin are.there) (All-replicate IsThere (3 * k) s there) in
      let two = All-append IsThere (front ++ zeros) inner one (summed_there m.partials (all_numbered m.body) (s + 1) (omega arith) (omega (arith, fit, before, long))) in
      let three = All-append IsThere (front ++ zeros ++ inner) exits two (All-replicate IsThere (2 * k + 1) s there) in
      let four = All-append IsThere (front ++ zeros ++ inner ++ exits) rest three (All-drop IsThere (at + c) p.origin are.there) in
      record {
        counted = omega (arith, before, behind, more);
        there = All-same IsThere r.origin (front ++ zeros ++ inner ++ exits ++ rest) (ap (λ (x : Lowered). x.origin) m.made) four;
      }

  one_there : (s : ℕ) (p r : Lowered) → AreThere p → LowersOne t s p r → AreThere r
  one_there s p r are (inl live) = made_there s (list_of live.loop.body) p r (from_one s live.loop.head live.loop.body live.loop.is) are (made_by true p s (list_of live.loop.body) r live.makes)
  one_there s p r are (inr stays) = subst AreThere (sym stays.1) are

  pub there_stays : (ss : List ℕ) (p q : Lowered) → AreThere p → Lowers t ss p q → AreThere q
  there_stays [] p q are e = subst AreThere (sym e) are
  there_stays (s ∷ ss) p q are a = there_stays ss a.0 q (one_there s p a.0 are a.1) a.2

  none_there : AreThere (not_lowered t)
  none_there =
      let all = range_with_len 1 count in
      let long = length-range_with_len 1 count in
      record {
        counted = omega arith;
        there = All-from_get_or IsThere all 0 (λ i h. let within : i < count = omega (arith, h, long) in subst IsThere (sym (get_or-range_with_len 1 count i 0 within)) (omega arith, omega (arith, within)));
      }

  pub lowered_there : (q : Lowered) → IsLowered t q → AreThere q
  lowered_there q lowered = there_stays (range_with_len 1 count) (not_lowered t) q none_there lowered
