use Rattle.std.proofs.Common.{◌≡◌, ℕ, ◌<◌, ◌^◌, List, length, bit_and, w64, sym, ap, ◌∙◌, subst, arith}
use Rattle.std.specs.Int.{bit_not}
use Rattle.std.proofs.lemmas.List.{with_items_is}
use Rattle.ped_bits.specs.Words.{word, places_of, IsKept}
use Rattle.ped_bits.proofs.Bits.{lengths, kept_cleared, cleared_is}
use Rattle.ped_bits.proofs.rows.Row.and_not_into.Goals as goal

pub clear_words-requires : goal.clear_words-requires
clear_words-requires c =
    let l = lengths c.target.inside.width c.self.inside.width c.target.inside.words.items c.target.inside.words.items c.self.inside.words.items c.args.target.now c.args.self.now c.target.invariant c.self.invariant c.target.view_is c.self.view_is c.requires in
    ap length c.deref.ensures.value ∙ l ∙ sym (ap length c.deref_mut.ensures.value)

pub invariant_of-target : goal.invariant_of-target
invariant_of-target c =
    let us = c.clear_words.new.target in
    let whole : length us ≡ c.target.inside.words.len = omega (arith, c.clear_words.auto.target, c.deref_mut.ensures.len) in
    let as_long : length us ≡ length c.target.inside.words.items = omega (arith, c.target.inside.words.ok) in
    subst (λ (ws : List ℕ). IsKept c.target.inside.width ws) (sym (with_items_is c.target.inside.words us whole))
    (kept_cleared c.target.inside.width c.self.inside.width us c.target.inside.words.items c.self.inside.words.items c.args.target.now c.args.self.now c.target.invariant c.self.invariant c.target.view_is c.self.view_is c.requires as_long (λ j. c.clear_words.ensures.cleared j ∙ (λ i. bit_and (word (c.deref_mut.ensures.value i) j) (bit_not w64 (word (c.deref.ensures.value i) j)))) (λ j. subst (λ (ws : List ℕ). word ws j < 2 ^ 64) c.deref.ensures.value (c.clear_words.ensures.small j)))

pub returns : goal.returns
returns c =
    let us = c.clear_words.new.target in
    let whole : length us ≡ c.target.inside.words.len = omega (arith, c.clear_words.auto.target, c.deref_mut.ensures.len) in
    ap (λ (ws : List ℕ). places_of c.target.inside.width ws) (with_items_is c.target.inside.words us whole)
    ∙ cleared_is c.target.inside.width c.self.inside.width us c.target.inside.words.items c.self.inside.words.items c.args.target.now c.args.self.now c.target.invariant c.self.invariant c.target.view_is c.self.view_is c.requires (λ j. c.clear_words.ensures.cleared j ∙ (λ i. bit_and (word (c.deref_mut.ensures.value i) j) (bit_not w64 (word (c.deref.ensures.value i) j)))) (λ j. subst (λ (ws : List ℕ). word ws j < 2 ^ 64) c.deref.ensures.value (c.clear_words.ensures.small j))
