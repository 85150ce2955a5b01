-- One more room was written.
use Rattle.std.proofs.Common.{◌≡◌, ◌+◌, ◌++◌, ◌∷◌, [], take, drop, get_or, sym, subst, ap, ◌∙◌, append_assoc, rules}
use Rattle.std.proofs.lemmas.List.{append-nil, take_all}
use Rattle.std.proofs.KnownBytes.{Appends-trans}
use Rattle.std.specs.Io.KnownBytes.{Appends}
use Rattle.counted_io.specs.Writing.{AppendsPrefix}
use Rattle.counted_io.proofs.Prefixes.{prefix_behind, prefix_within}
use Rattle.metering_model.specs.File.{header_line}
use Rattle.export_file.specs.Inner.Parts.{texts_in}
use Rattle.export_file.proofs.PartLaws.{one_more_room, rest_behind}
use Rattle.folded_text.proofs.BlockLaws.{on_err}
use Rattle.export_file.proofs.split.write_rooms.Goals as goal

pub loop-i-init : goal.loop-i-init
loop-i-init g c = record {
  written = subst (Appends (g.W.Sink.contents c.args.sink.now) (g.W.Sink.contents c.write_all.new.sink))
      (c.header_text.ensures ∙ sym (append-nil (header_line ++ 10 ∷ []))) c.in_ok-write_all.ensures.written;
  count = c.in_ok-write_all.ensures.count;
}

pub loop-i-preserved : goal.loop-i-preserved
loop-i-preserved g c =
    let old = g.W.Sink.contents c.args.sink.now in
    let mid = g.W.Sink.contents c.loop-i.sink in
    let new = g.W.Sink.contents c.write_all-in-loop-i.new.sink in
    let rooms = c.args.rooms.now in
    let head = header_line ++ 10 ∷ [] in
    let room = c.index-rooms-i.result in
    let text = (get_or rooms c.loop-i.i room).text.items in
    let is : c.as_slice.result.now ≡ text = c.as_slice.ensures.value in
    record {
      written = subst (Appends old new) (one_more_room head rooms c.loop-i.i room c.loop-i-test.true)
          (Appends-trans old mid new (head ++ texts_in (take c.loop-i.i rooms)) text c.loop-i.invariant.written (subst (Appends mid new) is c.in_ok-write_all-2.ensures.written));
      count = search rules;
    }

pub returns-in_err-write_all-clause-prefix : goal.returns-in_err-write_all-clause-prefix
returns-in_err-write_all-clause-prefix g c =
    let old = g.W.Sink.contents c.args.sink.now in
    let new = g.W.Sink.contents c.write_all.new.sink in
    let rooms = c.args.rooms.now in
    let head = header_line ++ 10 ∷ [] in
    let front : AppendsPrefix old new (head ++ texts_in (take 0 rooms)) = subst (AppendsPrefix old new) (c.header_text.ensures ∙ sym (append-nil head)) c.in_err-write_all.ensures.prefix in
    on_err c.from_residual.result
    (subst (AppendsPrefix old new) (rest_behind header_line rooms 0) (prefix_within old new (head ++ texts_in (take 0 rooms)) (texts_in (drop 0 rooms)) front))

pub returns-in_err-write_all-2-clause-prefix : goal.returns-in_err-write_all-2-clause-prefix
returns-in_err-write_all-2-clause-prefix g c =
    let old = g.W.Sink.contents c.args.sink.now in
    let mid = g.W.Sink.contents c.loop-i.sink in
    let new = g.W.Sink.contents c.write_all-in-loop-i.new.sink in
    let rooms = c.args.rooms.now in
    let head = header_line ++ 10 ∷ [] in
    let room = c.index-rooms-i.result in
    let text = (get_or rooms c.loop-i.i room).text.items in
    let before = head ++ texts_in (take c.loop-i.i rooms) in
    let rest = texts_in (drop (c.loop-i.i + 1) rooms) in
    let is : c.as_slice.result.now ≡ text = c.as_slice.ensures.value in
    let front = prefix_behind old mid new before text c.loop-i.invariant.written (subst (AppendsPrefix mid new) is c.in_err-write_all-2.ensures.prefix) in
    on_err c.from_residual-in_err-write_all-2.result
    (subst (AppendsPrefix old new)
    (ap (λ t. t ++ rest) (one_more_room head rooms c.loop-i.i room c.loop-i-test.true) ∙ rest_behind header_line rooms (c.loop-i.i + 1))
    (prefix_within old new (before ++ text) rest front))

pub returns-clause-written : goal.returns-clause-written
returns-clause-written g c =
    let rooms = c.args.rooms.now in
    subst (Appends (g.W.Sink.contents c.args.sink.now) (g.W.Sink.contents c.loop-i.sink))
    (ap (λ rs. (header_line ++ 10 ∷ []) ++ texts_in rs) (take_all c.loop-i.i rooms c.loop-i-test.false) ∙ append_assoc header_line (10 ∷ []) (texts_in rooms))
    c.loop-i.invariant.written
