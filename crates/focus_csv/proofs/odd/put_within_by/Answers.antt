-- What stands between the quotation marks is copied.
use Rattle.std.proofs.Common.{◌≡◌, length, ◌∙◌, rules, arith}
use Rattle.csv.specs.Writing.{writer_under}
use Rattle.focus_csv.specs.Inner.Strings.{doubled}
use Rattle.std.proofs.lemmas.Result.{IfOk-from_err}
use Rattle.focus_csv.proofs.CsvText.{within_copied, within_long}
use Rattle.focus_csv.proofs.odd.put_within_by.Goals as goal

pub returns-in_err-write_next-clause-ready : goal.returns-in_err-write_next-clause-ready
returns-in_err-write_next-clause-ready c = IfOk-from_err c.from_residual.result _ c.from_residual.ensures.0

pub returns-in_err-write_next-clause-put : goal.returns-in_err-write_next-clause-put
returns-in_err-write_next-clause-put c = IfOk-from_err c.from_residual.result _ c.from_residual.ensures.0

pub overflow_sub-to : goal.overflow_sub-to
overflow_sub-to c =
    let old = (writer_under c.args.writer.now).items in
    let new = (writer_under c.write_next.new.writer).items in
    let ends : c.len-to.result ≡ length new = search (rules, arith) in
    let long = within_long old c.args.field.now (doubled c.args.field.now) new (c.in_ok-write_next.ensures.written c.requires.ready) c.requires.quoted in
    omega (arith, long, ends)

pub slice_bounds-extend_from_slice-start : goal.slice_bounds-extend_from_slice-start
slice_bounds-extend_from_slice-start c =
    let old = (writer_under c.args.writer.now).items in
    let new = (writer_under c.write_next.new.writer).items in
    let begins : c.len-from.result ≡ length old = search (rules, arith) in
    let ends : c.len-to.result ≡ length new = search (rules, arith) in
    let long = within_long old c.args.field.now (doubled c.args.field.now) new (c.in_ok-write_next.ensures.written c.requires.ready) c.requires.quoted in
    omega (arith, long, begins, ends)

pub returns-in_err-extend_from_slice-clause-ready : goal.returns-in_err-extend_from_slice-clause-ready
returns-in_err-extend_from_slice-clause-ready c = IfOk-from_err c.from_residual-in_err-extend_from_slice.result _ c.from_residual-in_err-extend_from_slice.ensures.0

pub returns-in_err-extend_from_slice-clause-put : goal.returns-in_err-extend_from_slice-clause-put
returns-in_err-extend_from_slice-clause-put c = IfOk-from_err c.from_residual-in_err-extend_from_slice.result _ c.from_residual-in_err-extend_from_slice.ensures.0

pub returns-clause-ready : goal.returns-clause-ready
returns-clause-ready c = c.in_ok-write_next.ensures.ready

pub returns-clause-put : goal.returns-clause-put
returns-clause-put c =
    let old = (writer_under c.args.writer.now).items in
    let field = c.args.field.now in
    let written = c.in_ok-write_next.ensures.written c.requires.ready in
    let begins : c.len-from.result ≡ length old = search (rules, arith) in
    let ends : c.len-to.result ≡ length c.deref.result.now = search (rules, arith) in
    c.in_ok-extend_from_slice.ensures.items
    ∙ within_copied old field (doubled field) c.deref.result.now c.args.text.now.items c.len-from.result c.len-to.result begins ends (search (rules, written)) c.requires.quoted
