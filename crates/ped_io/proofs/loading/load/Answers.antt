use Rattle.std.proofs.Common.{rules, ◌≡◌, ◌+◌, ◌<◌, inl, inr, ℕ, List, Some, length, take, ◌++◌, ◌∙◌, sym, ap, subst, arith, length-append, length-drop}
use Rattle.std.proofs.lemmas.List.{length-take, take_all}
use Rattle.std.proofs.lemmas.Option.{same_Some}
use Rattle.std.proofs.Math.Seq.{take-add}
use Rattle.ped_io.specs.Outside.{Contents, content, GivesPart}
use Rattle.ped_io.proofs.Names.{adds_more}
use Rattle.ped_io.proofs.loading.load.Goals as goal

-- a read gives part of the one content that the name has
part_of : (files : Contents) (name bytes old new : List ℕ) (at n : ℕ) →
    content files name ≡ Some bytes →
    ((b : List ℕ) × (content files name ≡ Some b) × GivesPart b at n old new) →
    GivesPart bytes at n old new
part_of files name bytes old new at n held given =
    let same = same_Some _ _ (sym given.1 ∙ held) in
    subst (λ (b : List ℕ). GivesPart b at n old new) same given.2

-- where a read with room gives no byte, all bytes have been read
all_read : (bytes loaded old new : List ℕ) (at n : ℕ) → loaded ≡ take at bytes → n ≡ 0 →
    0 < length old → GivesPart bytes at n old new → loaded ≡ bytes
all_read bytes loaded old new at n read none room part =
    elim (part.end none) [
      | inl full ↦ absurd (omega arith)
      | inr past ↦ read ∙ take_all at bytes past
    ]

-- the bytes loaded grow by what a read gives
read_more : (bytes loaded after old new : List ℕ) (at n : ℕ) → loaded ≡ take at bytes →
    after ≡ loaded ++ take n new → GivesPart bytes at n old new → after ≡ take (at + n) bytes
read_more bytes loaded after old new at n read grown part =
    grown
    ∙ ap (λ front. front ++ take n new) read
    ∙ ap (λ rest. take at bytes ++ rest) part.part
    ∙ sym (take-add at n bytes)

pub returns-then-n-eq0-clause-loaded : goal.returns-then-n-eq0-clause-loaded
returns-then-n-eq0-clause-loaded g c files held =
    let given = c.in_ok-n.ensures.given files held in
    let read = c.loop-loaded.invariant.read files (c.in_ok-n.ensures.less files held) given.0 given.1 in
    let all = all_read given.0 _ _ _ _ _ read c.if-n-eq0.true (omega arith) given.2 in
    given.1 ∙ ap (λ bytes. Some bytes) (sym all)

pub loop-loaded-preserved : goal.loop-loaded-preserved
loop-loaded-preserved g c =
    let before = c.loop-loaded.invariant in
    let now = c.in_ok-n.ensures in
    let grown = c.in_ok-extend_from_slice.ensures.ok in
    let front = take c.in_ok-n.n c.read_at.new.piece in
    record {
      at = omega (arith, ap length grown, length-append c.loop-loaded.loaded front, length-take c.in_ok-n.n c.read_at.new.piece, now.within);
      within = omega arith;
      room = search rules;
      read = λ files may bytes held.
          let given = now.given files may in
          let part = part_of files c.args.name.now bytes _ _ _ _ held given in
          read_more bytes _ _ _ _ _ _ (before.read files (now.less files may) bytes held) grown part;
      inside = λ files may bytes held.
          let given = now.given files may in
          let part = part_of files c.args.name.now bytes _ _ _ _ held given in
          let was = before.inside files (now.less files may) bytes held in
          omega (arith, part.inside, length-drop c.loop-loaded.at bytes, was);
      less = λ files may. before.less files (now.less files may);
      counts = λ m. omega (arith, before.counts m, now.counts m);
      others = λ files told m other held.
          now.others files (before.same ∙ told) m other held ∙ before.others files told m other held;
      same = now.same ∙ before.same;
      names = adds_more _ _ _ _ before.names now.names;
    }

pub returns-in_err-n-clause-names : goal.returns-in_err-n-clause-names
returns-in_err-n-clause-names g c = adds_more _ _ _ _ c.loop-loaded.invariant.names c.read_at.ensures.names

pub returns-then-n-eq0-clause-names : goal.returns-then-n-eq0-clause-names
returns-then-n-eq0-clause-names g c = adds_more _ _ _ _ c.loop-loaded.invariant.names c.read_at.ensures.names

pub returns-then-limit-at-clause-names : goal.returns-then-limit-at-clause-names
returns-then-limit-at-clause-names g c = adds_more _ _ _ _ c.loop-loaded.invariant.names c.read_at.ensures.names

pub returns-in_err-extend_from_slice-clause-names :
    goal.returns-in_err-extend_from_slice-clause-names
returns-in_err-extend_from_slice-clause-names g c = adds_more _ _ _ _ c.loop-loaded.invariant.names c.read_at.ensures.names
