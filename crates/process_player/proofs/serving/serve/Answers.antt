use Rattle.std.proofs.Common.{◌∙◌, [], Ok, Err, refl, ap, append-nil, arith}
use Rattle.std.proofs.KnownBytes.{Appends-nil, Consumes-nil}
use Rattle.process_player.proofs.Commands.{ends_it, goes_by, goes_on}
use Rattle.process_player.proofs.Refusing.{long_before, many_taken, none_taken, serving_on, taken_on}
use Rattle.process_player.proofs.Failing.{never_write, ok_no_write, one_fault}
use Rattle.process_player.proofs.Stopping.{stops_reading, stops_writing}
use Rattle.process_player.proofs.serving.serve.Goals as goal

pub loop-init : goal.loop-init
loop-init g c = record {
  serves = record {
    asked = [];
    said = [];
    serves = (refl, refl);
    passes = record { came = []; consumed = Consumes-nil (g.S.Source.remaining c.args.source.now); joined = append-nil c.args.unread.now.bytes };
    written = Appends-nil (g.W.Sink.contents c.args.writer.now);
  };
  taken = none_taken c.args.unread.now.bytes (g.S.Source.remaining c.args.source.now);
  short = c.requires.read;
  at_hand = c.requires.at_hand;
  reads = refl;
  writes = refl;
}

pub returns-then-not-is_more : goal.returns-then-not-is_more
returns-then-not-is_more g c = record {
  ended = let here = c.in-Ok.ensures.ended (ap Ok c.if-not-is_more.true) in
      (ends_it c.loop.invariant.serves here, here.end, here.torn);
  stopped = tt;
  torn = λ is. absurd (ok_no_write is);
  reads = record { within = c.in-Ok.ensures.calls.within; count = c.in-Ok.ensures.calls.reads ∙ c.loop.invariant.reads };
  writes = c.in-Ok.ensures.calls.writes ∙ c.loop.invariant.writes;
  others = tt;
}

pub returns-in-Err : goal.returns-in-Err
returns-in-Err g c = record {
  ended = tt;
  stopped = λ not_write. let next = c.in-Err.ensures.stopped not_write in
      record { last = c.loop.process; continues = goes_by c.loop.invariant.serves next.passes next.written; torn = next.torn };
  torn = λ is. record {
    last = c.loop.process;
    rest = c.loop.unread.bytes;
    between = g.W.Sink.contents c.loop.writer;
    middle = g.S.Source.remaining c.loop.source;
    continues = c.loop.invariant.serves;
    stops = c.in-Err.ensures.torn (ap Err (one_fault is));
  };
  reads = stops_reading c.in-Err.ensures.calls c.loop.invariant.reads;
  writes = stops_writing (Unit {0}) c.in-Err.ensures.calls c.loop.invariant.writes;
  others = serving_on
      (long_before c.loop.counter c.args.unread.now.bytes c.loop.unread.bytes (g.S.Source.remaining c.args.source.now) (g.S.Source.remaining c.loop.source) c.loop.invariant.taken)
      c.in-Err.fault c.in-Err.ensures.others;
}

pub returns : goal.returns
returns g c = record {
  ended = tt;
  stopped = λ not_write. record { last = c.loop.process; continues = c.loop.invariant.serves; torn = λ is. absurd (cc) };
  torn = λ is. absurd (never_write refl (λ h. cc) is);
  reads = record { within = tt; count = c.loop.invariant.reads };
  writes = c.loop.invariant.writes;
  others = many_taken c.loop.counter c.args.unread.now.bytes c.loop.unread.bytes (g.S.Source.remaining c.args.source.now) (g.S.Source.remaining c.loop.source) (omega arith) c.loop.invariant.taken;
}

pub loop-preserved : goal.loop-preserved
loop-preserved g c = record {
  serves = goes_on c.loop.invariant.serves (c.in-Ok.ensures.served (ap Ok c.if-not-is_more.false));
  taken = taken_on c.loop.counter c.args.unread.now.bytes c.loop.unread.bytes c.serve_one.new.unread.bytes (g.S.Source.remaining c.args.source.now) (g.S.Source.remaining c.loop.source)
      (g.S.Source.remaining c.serve_one.new.source) c.loop.invariant.taken (c.in-Ok.ensures.served (ap Ok c.if-not-is_more.false));
  short = c.in-Ok.ensures.calls.within;
  at_hand = (c.in-Ok.ensures.served (ap Ok c.if-not-is_more.false)).at_hand;
  reads = c.in-Ok.ensures.calls.reads ∙ c.loop.invariant.reads;
  writes = c.in-Ok.ensures.calls.writes ∙ c.loop.invariant.writes;
}
