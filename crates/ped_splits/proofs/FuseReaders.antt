-- Who reads a variable of the DO loops of `fuse`, as the code asks it, is what rule 5 names.
use Rattle.std.proofs.Common.{◌≡◌, ◌⊎◌, inl, inr, ℕ, suc, ◌<◌, ◌≤◌, nat_lt, Bool, true, false, Option, Some, None, MatchOption, refl, sym, ap, subst, ◌∙◌, arith, if◌then◌else◌}
use Rattle.std.proofs.lemmas.Bool.{ltb-true, ltb-false}
use Rattle.ped_tree.specs.Tree.{ProgramTree}
use Rattle.ped_rules.specs.ped_flow.specs.Answers.{IsEscape}
use Rattle.ped_rules.specs.ped_flow.specs.Questions.{LoopOf, IsFirst, IsReadLoose, IsReadBehind, IsContained, IsBrokenBy, IsShown}
use Rattle.ped_rules.specs.ped_flow.specs.declared.flows.Reader.{Reader}
use Rattle.ped_rules.specs.ped_flow.specs.declared.flows.Reader.TheVariants.{Statement, Saved}
use Rattle.ped_splits.specs.Neighbours.{Neighbour, fused, next_number}
use Rattle.ped_rules.specs.KeepMaps.{opened_at}
use Rattle.ped_splits.specs.Fusing.{Match, IsBrokenInFusion, IsShownInFusion, WhereFusionEscapes}
use Rattle.ped_splits.specs.CodeFusing.{IsReaderOf, earlier, IsBrokenInTwo, IsShownInTwo, IsBrokenInNew, named_by}
use Rattle.ped_splits.proofs.FuseOne.{same_fused, same_next}

-- of two readers the earlier one
module _ (P Q : ℕ → Type 0) (S T : Type 0) where
  abbrev Either : ℕ → Type 0
  Either k = P k ⊎ Q k

  neither : IsFirst P None → IsFirst Q None → IsFirst Either None
  neither p q k (inl h) = p k h
  neither p q k (inr h) = q k h

  left_first : (k : ℕ) → IsFirst P (Some k) → IsFirst Q None → IsFirst Either (Some k)
  left_first k p q = (inl p.0, least)
    where
      least : (n : ℕ) → Either n → k ≤ n
      least n (inl h) = p.1 n h
      least n (inr h) = absurd (q n h)

  right_first : (k : ℕ) → IsFirst P None → IsFirst Q (Some k) → IsFirst Either (Some k)
  right_first k p q = (inr q.0, least)
    where
      least : (n : ℕ) → Either n → k ≤ n
      least n (inl h) = absurd (p n h)
      least n (inr h) = q.1 n h

  both_first : (k n : ℕ) → IsFirst P (Some k) → IsFirst Q (Some n) → (b : Bool) → nat_lt k n ≡ b → IsFirst Either (Some (if b then k else n))
  both_first k n p q true e = (inl p.0, least)
    where
      less : k < n
      less = ltb-true k n e

      least : (j : ℕ) → Either j → k ≤ j
      least j (inl h) = p.1 j h
      least j (inr h) = let l = less in let m = q.1 j h in omega (arith, l, m)
  both_first k n p q false e = (inr q.0, least)
    where
      most : n ≤ k
      most = ltb-false k n e

      least : (j : ℕ) → Either j → n ≤ j
      least j (inl h) = let l = most in let m = p.1 j h in omega (arith, l, m)
      least j (inr h) = q.1 j h

  not_shown : (S → ⊥) → (T → ⊥) → S ⊎ T → ⊥
  not_shown p q (inl h) = p h
  not_shown p q (inr h) = q h

  pub earlier_reader : (a b : Option Reader) → IsReaderOf P S a → IsReaderOf Q T b → IsReaderOf Either (S ⊎ T) (earlier a b)
  earlier_reader None None p q = (neither p.0 q.0, not_shown p.1 q.1)
  earlier_reader None (Some (Statement n)) p q = right_first n p.0 q
  earlier_reader None (Some Saved) p q = (neither p.0 q.0, inr q.1)
  earlier_reader (Some Saved) None p q = (neither p.0 q.0, inl p.1)
  earlier_reader (Some Saved) (Some Saved) p q = (neither p.0 q.0, inl p.1)
  earlier_reader (Some Saved) (Some (Statement n)) p q = right_first n p.0 q
  earlier_reader (Some (Statement k)) None p q = left_first k p q.0
  earlier_reader (Some (Statement k)) (Some Saved) p q = left_first k p q.0
  earlier_reader (Some (Statement k)) (Some (Statement n)) p q = both_first k n p q (nat_lt k n) refl

-- who breaks what is asked, told in other words
module _ (P Q : ℕ → Type 0) (S T : Type 0) (to : (k : ℕ) → P k → Q k) (from : (k : ℕ) → Q k → P k) (shown : S → T) (back : T → S) where
  none_too : IsFirst P None → IsFirst Q None
  none_too p k h = p k (from k h)

  pub reader_too : (r : Option Reader) → IsReaderOf P S r → IsReaderOf Q T r
  reader_too None h = (none_too h.0, λ k. h.1 (back k))
  reader_too (Some (Statement n)) h = (to n h.0, λ k q. h.1 k (from k q))
  reader_too (Some Saved) h = (none_too h.0, shown h.1)

-- what the flow answers
module _ (t : ProgramTree) (l : ℕ) where
  unbroken : IsContained t l → (n : ℕ) → IsBrokenBy t l n → ⊥
  unbroken contained n b = by b.read
    where
      by : IsReadLoose t l b.scalar n ⊎ IsReadBehind t l b.scalar n → ⊥
      by (inl loose) = (contained b.scalar b.index).0 n loose
      by (inr behind) = (contained b.scalar b.index).1 (inl (n, behind))

  pub escape_reader : (r : Option Reader) → IsEscape t l r → IsReaderOf (IsBrokenBy t l) (IsShown t l) r
  escape_reader None h = (unbroken h, λ s. (h s.scalar s.index).1 (inr s.shown))
  escape_reader (Some (Statement n)) h = h
  escape_reader (Some Saved) h = h

-- in the new program, with the present numbers
module _ (u : ProgramTree) (s m : ℕ) where
  opened_rises : (j k : ℕ) → j ≤ k → opened_at m j ≤ opened_at m k
  opened_rises j k h = by (nat_lt j m) (nat_lt k m) refl refl
    where
      by : (a b : Bool) → nat_lt j m ≡ a → nat_lt k m ≡ b → (if a then j else suc j) ≤ (if b then k else suc k)
      by true true e f = h
      by true false e f = omega (arith, h)
      by false true e f = let l : k < m = ltb-true k m f in let g : m ≤ j = ltb-false j m e in absurd (omega (arith, l, g, h))
      by false false e f = omega (arith, h)

  pub new_statement : (n : ℕ) → IsFirst (IsBrokenBy u s) (Some n) → IsFirst (IsBrokenInNew u s m) (Some (opened_at m n))
  new_statement n h = ((n, h.0, refl), λ k b. subst (λ (j : ℕ). opened_at m n ≤ j) (sym b.2) (opened_rises n b.0 (h.1 b.0 b.1)))

  pub new_none : IsFirst (IsBrokenBy u s) None → IsFirst (IsBrokenInNew u s m) None
  new_none h k b = h b.0 b.1

-- what rule 5 names
module _ (t : ProgramTree) (s : ℕ) (l : LoopOf t s) where
  names : (r : Option Reader) (n : ℕ) → IsReaderOf (IsBrokenInFusion t s) (IsShownInFusion t s) r → named_by s r ≡ Some n → WhereFusionEscapes t s n
  names None n h e = absurd cc
  names (Some (Statement k)) n h e = let same : k ≡ n = cc in (l, inl (subst (λ (j : ℕ). IsFirst (IsBrokenInFusion t s) (Some j)) same h))
  names (Some Saved) n h e = let same : s ≡ n = cc in (l, inr (h.0, h.1, sym same))

  names_none : (r : Option Reader) → IsReaderOf (IsBrokenInFusion t s) (IsShownInFusion t s) r → named_by s r ≡ None → (n : ℕ) → WhereFusionEscapes t s n → ⊥
  names_none None h e n (k, inl first) = h.0 n first.0
  names_none None h e n (k, inr shown) = h.1 shown.1
  names_none (Some (Statement k)) h e n w = absurd cc
  names_none (Some Saved) h e n w = absurd cc

  pub named_rule : (r : Option Reader) → IsReaderOf (IsBrokenInFusion t s) (IsShownInFusion t s) r → (found : Option ℕ) → found ≡ named_by s r → MatchOption found ((n : ℕ) → WhereFusionEscapes t s n → ⊥) (WhereFusionEscapes t s)
  named_rule r h None is = names_none r h (sym is)
  named_rule r h (Some n) is = names r n h (sym is)

-- where no DO comes next
module _ (t : ProgramTree) (s : ℕ) (none : Neighbour t s → ⊥) where
  broken_alone : (k : ℕ) → IsBrokenInFusion t s k → IsBrokenBy t s k
  broken_alone k (inl b) = b
  broken_alone k (inr (inl b)) = absurd (none b.0)
  broken_alone k (inr (inr b)) = absurd (none b.0.neighbour)

  shown_alone : IsShownInFusion t s → IsShown t s
  shown_alone (inl h) = h
  shown_alone (inr (inl h)) = absurd (none h.0)
  shown_alone (inr (inr h)) = absurd (none h.0.neighbour)

  pub reader_alone : (r : Option Reader) → IsReaderOf (IsBrokenBy t s) (IsShown t s) r → IsReaderOf (IsBrokenInFusion t s) (IsShownInFusion t s) r
  reader_alone = reader_too (IsBrokenBy t s) (IsBrokenInFusion t s) (IsShown t s) (IsShownInFusion t s) (λ k b. inl b) broken_alone (λ h. inl h) shown_alone

-- where one does
module _ (t : ProgramTree) (s : ℕ) (x : Neighbour t s) where
  abbrev m : ℕ
  m = next_number x

  next_broken : (k : ℕ) → (y : Neighbour t s) × IsBrokenBy t (next_number y) k → IsBrokenBy t m k
  next_broken k b = subst (λ (j : ℕ). IsBrokenBy t j k) (same_next t s b.0 x) b.1

  next_shown : (y : Neighbour t s) × IsShown t (next_number y) → IsShown t m
  next_shown h = subst (λ (j : ℕ). IsShown t j) (same_next t s h.0 x) h.1

  module _ (unlike : Match t s → ⊥) where
    two_to : (k : ℕ) → IsBrokenInTwo t s m k → IsBrokenInFusion t s k
    two_to k (inl b) = inl b
    two_to k (inr b) = inr (inl (x, b))

    two_from : (k : ℕ) → IsBrokenInFusion t s k → IsBrokenInTwo t s m k
    two_from k (inl b) = inl b
    two_from k (inr (inl b)) = inr (next_broken k b)
    two_from k (inr (inr b)) = absurd (unlike b.0)

    shown_to : IsShownInTwo t s m → IsShownInFusion t s
    shown_to (inl h) = inl h
    shown_to (inr h) = inr (inl (x, h))

    shown_from : IsShownInFusion t s → IsShownInTwo t s m
    shown_from (inl h) = inl h
    shown_from (inr (inl h)) = inr (next_shown h)
    shown_from (inr (inr h)) = absurd (unlike h.0)

    pub reader_unlike : (r : Option Reader) → IsReaderOf (IsBrokenInTwo t s m) (IsShownInTwo t s m) r → IsReaderOf (IsBrokenInFusion t s) (IsShownInFusion t s) r
    reader_unlike = reader_too (IsBrokenInTwo t s m) (IsBrokenInFusion t s) (IsShownInTwo t s m) (IsShownInFusion t s) two_to two_from shown_to shown_from

-- where that is alike
module _ (t : ProgramTree) (s : ℕ) (a : Match t s) where
  abbrev k : ℕ
  k = next_number a.neighbour

  abbrev u : ProgramTree
  u = fused a.neighbour

  abbrev Broken : ℕ → Type 0
  Broken n = IsBrokenInTwo t s k n ⊎ IsBrokenInNew u s k n

  abbrev Shown : Type 0
  Shown = IsShownInTwo t s k ⊎ IsShown u s

  all_to : (n : ℕ) → Broken n → IsBrokenInFusion t s n
  all_to n (inl (inl b)) = inl b
  all_to n (inl (inr b)) = inr (inl (a.neighbour, b))
  all_to n (inr b) = inr (inr (a, b.0, b.1, b.2))

  all_from : (n : ℕ) → IsBrokenInFusion t s n → Broken n
  all_from n (inl b) = inl (inl b)
  all_from n (inr (inl b)) = inl (inr (next_broken t s a.neighbour n b))
  all_from n (inr (inr b)) =
      inr (b.1, subst (λ (v : ProgramTree). IsBrokenBy v s b.1) (same_fused t s b.0.neighbour a.neighbour) b.2, b.3 ∙ ap (λ (j : ℕ). opened_at j b.1) (same_next t s b.0.neighbour a.neighbour))

  shown_all_to : Shown → IsShownInFusion t s
  shown_all_to (inl (inl h)) = inl h
  shown_all_to (inl (inr h)) = inr (inl (a.neighbour, h))
  shown_all_to (inr h) = inr (inr (a, h))

  shown_all_from : IsShownInFusion t s → Shown
  shown_all_from (inl h) = inl (inl h)
  shown_all_from (inr (inl h)) = inl (inr (next_shown t s a.neighbour h))
  shown_all_from (inr (inr h)) = inr (subst (λ (v : ProgramTree). IsShown v s) (same_fused t s h.0.neighbour a.neighbour) h.1)

  pub reader_alike : (r : Option Reader) → IsReaderOf Broken Shown r → IsReaderOf (IsBrokenInFusion t s) (IsShownInFusion t s) r
  reader_alike = reader_too Broken (IsBrokenInFusion t s) Shown (IsShownInFusion t s) all_to all_from shown_all_to shown_all_from
