-- A chain of rules, each of which names one statement, in the order of their numbers: it has one first rule that stands, and that one is found by asking the rules one behind the other.
use Rattle.std.proofs.Common.{◌≡◌, ℕ, ◌≤◌, ◌<◌, inl, inr, refl, sym, ap, subst, arith}
use Rattle.ped_loop_runs.specs.ped_steps.specs.declared.rules.Rule.{Rule}
use Rattle.ped_loop_runs.specs.ped_steps.specs.RuleNames.{number_of}
use Rattle.ped_loop_runs.specs.ped_steps.specs.Causes.{Rules, NoRule, IsFirstRule}
use Rattle.ped_rules.specs.Chains.{no_rules, also}

-- this names one number
abbrev pub IsOne : (ℕ → Type 0) → Type 0
IsOne P = (m n : ℕ) → P m → P n → m ≡ n

-- each rule that stands names one statement and has a number above this one
pub record IsChain (k : ℕ) (stands : Rules) : Type 0 where
  pub above : (q : Rule) (n : ℕ) → stands q n → k < number_of q
  pub one : (r : Rule) (m n : ℕ) → stands r m → stands r n → m ≡ n

-- the end of a chain
pub chain_end : (k : ℕ) → IsChain k no_rules
chain_end k = record { above = λ q n h. absurd h; one = λ r m n h g. absurd h }

less_by : (k : ℕ) (q r : Rule) → q ≡ r → k < number_of r → k < number_of q
less_by k q r e h = subst (λ (p : Rule). k < number_of p) (sym e) h

not_above : (q r : Rule) → q ≡ r → number_of r < number_of q → ⊥
not_above q r e h = let same = ap number_of e in omega (arith, same, h)

module _ (r : Rule) (P : ℕ → Type 0) (others : Rules) where
  -- one rule more
  pub chain_link : (k : ℕ) → k < number_of r → IsOne P → IsChain (number_of r) others → IsChain k (also r P others)
  chain_link k less one_p rest = record { above = above; one = one }
    where
      above : (q : Rule) (n : ℕ) → also r P others q n → k < number_of q
      above q n (inl (e, p)) = less_by k q r e less
      above q n (inr h) = let a = rest.above q n h in omega (arith, less, a)

      one : (q : Rule) (m n : ℕ) → also r P others q m → also r P others q n → m ≡ n
      one q m n (inl (e, p)) (inl (f, g)) = one_p m n p g
      one q m n (inl (e, p)) (inr h) = absurd (not_above q r e (rest.above q n h))
      one q m n (inr h) (inl (e, p)) = absurd (not_above q r e (rest.above q m h))
      one q m n (inr h) (inr g) = rest.one q m n h g

  -- the rule is the first where it stands
  pub first_here : (n : ℕ) → P n → IsChain (number_of r) others → IsFirstRule (also r P others) r n
  first_here n p rest = (inl (refl, p), least)
    where
      least : (q : Rule) (m : ℕ) → also r P others q m → number_of r ≤ number_of q
      least q m (inl (e, g)) = let same = ap number_of e in omega (arith, same)
      least q m (inr h) = let a = rest.above q m h in omega (arith, a)

  -- where it doesn't stand, the first of the others is
  pub first_later : ((n : ℕ) → P n → ⊥) → (q : Rule) (n : ℕ) → IsFirstRule others q n → IsFirstRule (also r P others) q n
  first_later none q n first = (inr first.0, least)
    where
      least : (p : Rule) (m : ℕ) → also r P others p m → number_of q ≤ number_of p
      least p m (inl (e, g)) = absurd (none m g)
      least p m (inr h) = first.1 p m h

  -- and where none of the others stands, none does
  pub none_later : ((n : ℕ) → P n → ⊥) → NoRule others → NoRule (also r P others)
  none_later none rest q n (inl (e, p)) = none n p
  none_later none rest q n (inr h) = rest q n h

  -- where none stands, it doesn't
  pub not_this : NoRule (also r P others) → (n : ℕ) → P n → ⊥
  not_this none n p = none r n (inl (refl, p))

  -- and none of the others does
  pub not_those : NoRule (also r P others) → NoRule others
  not_those none q n h = none q n (inr h)

-- no rule stands at the end
pub none_at_end : NoRule no_rules
none_at_end q n h = absurd h
