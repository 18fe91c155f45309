use Rattle.std.proofs.Common.{take}
use Rattle.ped_io.specs.Faults.{sent_of}
use Rattle.ped_answer.proofs.Outcomes.{front_of, counted, more_told}
use Rattle.ped_answer.proofs.finishing.finish.Goals as goal

pub returns-in-Ok-clause-told_sent : goal.returns-in-Ok-clause-told_sent
returns-in-Ok-clause-told_sent g c =
    more_told (g.K.Sink.taken c.args.out.now) (g.K.Sink.taken c.put_all.new.sink) (g.K.Sink.sent c.args.out.now) (g.K.Sink.sent c.put_all.new.sink) c.args.bytes.now
    c.in-Ok.ensures.all c.in-Ok.ensures.sent

pub returns-in-Err-WriteFault-clause-answer : goal.returns-in-Err-WriteFault-clause-answer
returns-in-Err-WriteFault-clause-answer g c =
    let n = sent_of c.in-Err-WriteFault.field-0 in (
      take n c.args.bytes.now,
      c.in-Err-WriteFault.ensures.sent_part,
      (
        counted c.in-Err-WriteFault.field-0 c.in-Err-WriteFault.field-0-0 _ c.in-Err-WriteFault.ensures.cause c.in-Err-WriteFault.field-0-is,
        front_of c.args.status c.args.bytes.now n,
      ),
    )

pub returns-in-Err-WriteFault-clause-told_sent : goal.returns-in-Err-WriteFault-clause-told_sent
returns-in-Err-WriteFault-clause-told_sent g c =
    more_told (g.K.Sink.taken c.args.out.now) (g.K.Sink.taken c.put_all.new.sink) (g.K.Sink.sent c.args.out.now) (g.K.Sink.sent c.put_all.new.sink) (take (sent_of c.in-Err-WriteFault.field-0) c.args.bytes.now)
    c.in-Err-WriteFault.ensures.part c.in-Err-WriteFault.ensures.sent_part

pub returns-in-Err-NoMemory-clause-answer : goal.returns-in-Err-NoMemory-clause-answer
returns-in-Err-NoMemory-clause-answer g c =
    let n = sent_of c.in-Err-NoMemory.field-0 in (
      take n c.args.bytes.now,
      c.in-Err-NoMemory.ensures.sent_part,
      front_of c.args.status c.args.bytes.now n,
    )

pub returns-in-Err-NoMemory-clause-told_sent : goal.returns-in-Err-NoMemory-clause-told_sent
returns-in-Err-NoMemory-clause-told_sent g c =
    more_told (g.K.Sink.taken c.args.out.now) (g.K.Sink.taken c.put_all.new.sink) (g.K.Sink.sent c.args.out.now) (g.K.Sink.sent c.put_all.new.sink) (take (sent_of c.in-Err-NoMemory.field-0) c.args.bytes.now)
    c.in-Err-NoMemory.ensures.part c.in-Err-NoMemory.ensures.sent_part
