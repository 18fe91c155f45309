-- The limits of a DO come from the values of its bounds.
use Rattle.std.proofs.Common.{◌≡◌, ℕ, ℤ, List, ◌++◌, Bool, true, false, Result, Ok, Err, refl, sym, ap, ◌∙◌, append-nil, if◌then◌else◌}
use Rattle.ped_steps.specs.ped_flow.specs.ped_tree.specs.Tree.{Head}
use Rattle.ped_steps.specs.ped_store.specs.Stores.{Store, out_of_range}
use Rattle.ped_steps.specs.ped_eval.specs.Scopes.{Names}
use Rattle.ped_steps.specs.ped_eval.specs.Evaluation.{Seen, Evaluated, having_seen, onward, ◌>>>◌, given}
use Rattle.ped_steps.specs.ped_eval.specs.Loops.{is_bound, in_bounds, Limits, limits}
use Rattle.ped_steps.specs.ped_eval.specs.Values.{value}
use Rattle.ped_steps.specs.ped_laws.specs.Runs.Seeing.{ComesTo}
use Rattle.ped_steps.specs.ped_laws.proofs.RunLaws.Sight.{holds_append, holds_first, holds_rest, value_told}
use Rattle.ped_bodies.specs.Trips.{HasLimits}

passes : (m : ℤ) → is_bound m ≡ true → in_bounds m ≡ Ok m
passes m h = λ i. if h i then Ok m else Err out_of_range

-- with a terminal value, and with its value tested
abbrev ended : ℤ → ℤ → Evaluated Limits
ended m v = given (in_bounds v) >>> λ n. given (Ok (record { first = m; last = n }))

module _ (g : Names) (d : Head) where
  abbrev begun : Store → ℤ → Evaluated Limits
  begun s u = given (in_bounds u) >>> λ m. value g d.last s >>> λ v. ended m v

  pub limits_come : (xs ys : List Seen) (m n : ℤ) → ComesTo (value g d.first) xs (Ok m) → is_bound m ≡ true → ComesTo (value g d.last) ys (Ok n) → is_bound n ≡ true → ComesTo (limits g d) (xs ++ ys) (Ok (record { first = m; last = n }))
  limits_come xs ys m n first above last below s holds =
      ap (λ (w : Evaluated ℤ). w >>> begun s) (first s (holds_first s xs ys holds))
      ∙ (λ i. having_seen xs (given (passes m above i) >>> λ m. value g d.last s >>> λ v. ended m v))
      ∙ ap (λ (w : Evaluated ℤ). having_seen xs (w >>> λ v. ended m v)) (last s (holds_rest s xs ys holds))
      ∙ (λ i. having_seen xs (having_seen ys (given (passes n below i) >>> λ n. given (Ok (record { first = m; last = n })))))
      ∙ (λ i. record { seen = xs ++ append-nil ys i; result = Ok (record { first = m; last = n }) })

  -- and the limits of a DO that has some are such
  module _ (s : Store) (l : Limits) where
    abbrev seen : List Seen
    seen = (value g d.first s).seen

    abbrev later : List Seen
    later = (value g d.last s).seen

    in_order : (m n : ℤ) → (value g d.first s).result ≡ Ok m → is_bound m ≡ true → (value g d.last s).result ≡ Ok n → is_bound n ≡ true → record { first = m; last = n } ≡ l → HasLimits g d s l
    in_order m n first above last below same = record {
      first = first ∙ ap (λ (w : Limits). Ok w.first) same;
      last = last ∙ ap (λ (w : Limits). Ok w.last) same;
      first_bound = ap (λ (w : Limits). is_bound w.first) (sym same) ∙ above;
      last_bound = ap (λ (w : Limits). is_bound w.last) (sym same) ∙ below;
      seen = ap (λ (e : Evaluated Limits). e.seen) (limits_come seen later m n (by_first (value_told g d.first).comes) above (by_last (value_told g d.last).comes) below s (holds_append s seen later ((value_told g d.first).holds s) ((value_told g d.last).holds s)));
    }
      where
        by_first : ((u : Store) → ComesTo (value g d.first) (value g d.first u).seen (value g d.first u).result) → ComesTo (value g d.first) seen (Ok m)
        by_first told u holds = told s u holds ∙ (λ i. record { seen = seen; result = first i })

        by_last : ((u : Store) → ComesTo (value g d.last) (value g d.last u).seen (value g d.last u).result) → ComesTo (value g d.last) later (Ok n)
        by_last told u holds = told s u holds ∙ (λ i. record { seen = later; result = last i })

    tested_last : (m v : ℤ) (b : Bool) → is_bound v ≡ b → (given (if b then Ok v else Err out_of_range) >>> λ n. given (Ok (record { first = m; last = n }))).result ≡ Ok l → (is_bound v ≡ true) × (record { first = m; last = v } ≡ l)
    tested_last m v true h e = (h, let is : record { first = m; last = v } ≡ l = cc in is)
    tested_last m v false h e = absurd cc

    by_last_value : (m : ℤ) → (value g d.first s).result ≡ Ok m → is_bound m ≡ true → (r : Result ℤ ℕ) → (value g d.last s).result ≡ r → (onward later r (λ v. ended m v)).result ≡ Ok l → HasLimits g d s l
    by_last_value m first above (Ok v) last e =
        let tested = tested_last m v (is_bound v) refl e in
        in_order m v first above last tested.0 tested.1
    by_last_value m first above (Err k) last e = absurd cc

    by_test : (u : ℤ) → (value g d.first s).result ≡ Ok u → (b : Bool) → is_bound u ≡ b → (given (if b then Ok u else Err out_of_range) >>> λ m. value g d.last s >>> λ v. ended m v).result ≡ Ok l → HasLimits g d s l
    by_test u first true h e = by_last_value u first h (value g d.last s).result refl e
    by_test u first false h e = absurd cc

    by_value : (r : Result ℤ ℕ) → (value g d.first s).result ≡ r → (onward seen r (begun s)).result ≡ Ok l → HasLimits g d s l
    by_value (Ok u) first e = by_test u first (is_bound u) refl e
    by_value (Err k) first e = absurd cc

    pub limits_parted : (limits g d s).result ≡ Ok l → HasLimits g d s l
    limits_parted e = by_value (value g d.first s).result refl e
