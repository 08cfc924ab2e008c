use Rattle.std.proofs.Common.{refl, sym, ap, ◌∙◌}
use Rattle.std.specs.Prelude.{Some}
use Rattle.serv_words.specs.declared.texts.Text.TheVariants.{Ask}
use Rattle.serv_words.proofs.AskLemmas.{asks_none}
use Rattle.serv_top.proofs.EndLemmas.{init_ends, session_ends}
use Rattle.serv_top.proofs.ImportLemmas.{complete_import}
use Rattle.serv_top.proofs.LinksLemmas.{complete_served}
use Rattle.serv_top.proofs.OrderLemmas.{no_text, of_none, of_query, of_task, text_of_none, text_of_query, text_of_task}
use Rattle.serv_top.proofs.TextEndLemmas.{complete_text, written_finishes}
use Rattle.serv_top.proofs.Applied.{complete_run}
use Rattle.serv_top.proofs.top.run.Goals as goal

-- ---- where nothing fails

pub returns-in-Some-Apply-clause-complete : goal.returns-in-Some-Apply-clause-complete
returns-in-Some-Apply-clause-complete g c = of_task _ _ _ (ap Some (sym c.in-Some-Apply.field-0-is) ∙ c.in-Some-Apply.ensures.task) c.in-Some-Apply.ensures.other
    (λ calm. let disk = calm.1 in
    complete_run g.D.Disk.view g.D.Disk.faults c.args.disk.now c.apply.new.disk c.apply.result c.args.steps.now c.apply.new.steps
    _ _ _ _ _ _ calm.0.input disk.content disk.commands disk.next calm.0.told calm.0.short disk.told disk.history (disk.good disk.content (g.met.D.Disk.reads_image c.args.disk.now disk.content disk.told)) (λ is. calm.2 (c.apply.ensures.read is)) (λ is. calm.3 (c.apply.ensures.write is))
    (λ is. calm.4 (c.apply.ensures.disk is)) calm.4 c.apply.ensures.applied)

pub returns-in-Some-Import-clause-complete : goal.returns-in-Some-Import-clause-complete
returns-in-Some-Import-clause-complete g c = of_task _ _ _ (ap Some (sym c.in-Some-Import.field-0-is) ∙ c.in-Some-Import.ensures.task) c.in-Some-Import.ensures.other
    (λ calm. let disk = calm.1 in
    complete_import g.D.Disk.view g.D.Disk.faults c.args.disk.now c.import.new.disk c.import.result c.args.steps.now c.import.new.steps
    _ _ _ _ _ _ calm.0.input disk.content disk.commands disk.next calm.0.told calm.0.short disk.told disk.history (disk.good disk.content (g.met.D.Disk.reads_image c.args.disk.now disk.content disk.told)) (λ is. calm.2 (c.import.ensures.read is)) (λ is. calm.3 (c.import.ensures.write is))
    (λ is. calm.4 (c.import.ensures.disk is)) calm.4 c.import.ensures.imported)

pub returns-in-Some-Write-clause-complete : goal.returns-in-Some-Write-clause-complete
returns-in-Some-Write-clause-complete g c = of_task _ _ _ (ap Some (sym c.in-Some-Write.field-0-is) ∙ c.in-Some-Write.ensures.task) c.in-Some-Write.ensures.other
    (λ calm. let disk = calm.1 in
    complete_text g.D.Disk.view g.D.Disk.faults c.args.disk.now c.write_over_journal-in-Some-Write.new.disk c.write_over_journal-in-Some-Write.result c.in-Some-Write.text c.args.steps.now c.write_over_journal-in-Some-Write.new.steps
    _ _ _ _ disk.content disk.commands disk.next (λ reading. let input = calm.0 reading in (input.0, λ is. input.1 (c.write_over_journal-in-Some-Write.ensures.read is))) disk.told disk.history
    (disk.good disk.content (g.met.D.Disk.reads_image c.args.disk.now disk.content disk.told)) (λ is. calm.2 (c.write_over_journal-in-Some-Write.ensures.write is)) calm.3 c.write_over_journal-in-Some-Write.ensures.written)

pub returns-in-Some-Serve-clause-complete : goal.returns-in-Some-Serve-clause-complete
returns-in-Some-Serve-clause-complete g c = of_task _ _ _ (ap Some (sym c.in-Some-Serve.field-0-is) ∙ c.in-Some-Serve.ensures.task) c.in-Some-Serve.ensures.other
    (λ calm. let disk = calm.0 in
    complete_served g.D.Disk.view g.D.Disk.faults c.args.disk.now c.serve_over.new.disk _ c.serve_over.result c.in-Some-Serve.most c.args.steps.now c.serve_over.new.steps
    _ _ _ _ _ _ disk.content disk.commands disk.next disk.told disk.history (disk.good disk.content (g.met.D.Disk.reads_image c.args.disk.now disk.content disk.told)) (λ is. calm.1 (c.serve_over.ensures.write is)) (λ is. calm.2 (c.serve_over.ensures.disk is))
    (λ is. calm.3 (c.serve_over.ensures.net is)) calm.2 c.serve_over.ensures.served)

pub returns-in-Some-clause-complete : goal.returns-in-Some-clause-complete
returns-in-Some-clause-complete g c = of_query _ _ _ c.in-None.ensures.task c.in-Some.ensures.only
    (λ calm. let disk = calm.1 in
    complete_text g.D.Disk.view g.D.Disk.faults c.args.disk.now c.write_over_journal.new.disk c.write_over_journal.result (Ask c.in-Some.query) c.args.steps.now c.write_over_journal.new.steps
    _ _ _ _ disk.content disk.commands disk.next (λ reading. let input = calm.0 reading in (input.0, λ is. input.1 (c.write_over_journal.ensures.read is))) disk.told disk.history
    (disk.good disk.content (g.met.D.Disk.reads_image c.args.disk.now disk.content disk.told)) (λ is. calm.2 (c.write_over_journal.ensures.write is)) calm.3 c.write_over_journal.ensures.written)

pub returns-in-None-read_asking-clause-complete : goal.returns-in-None-read_asking-clause-complete
returns-in-None-read_asking-clause-complete g c = of_none _ _ c.in-None.ensures.task (asks_none _ c.in-None-read_asking.ensures.only)

pub returns-in-Some-Init-clause-complete : goal.returns-in-Some-Init-clause-complete
returns-in-Some-Init-clause-complete g c = of_task _ _ _ (ap Some (sym c.in-Some-Init.field-0-is) ∙ c.in-Some-Init.ensures.task) c.in-Some-Init.ensures.other
    (λ calm. init_ends c.make_journal.result _ _ _ _ calm c.make_journal.ensures.made)

pub returns-in-Some-Session-clause-complete : goal.returns-in-Some-Session-clause-complete
returns-in-Some-Session-clause-complete g c = of_task _ _ _ (ap Some (sym c.in-Some-Session.field-0-is) ∙ c.in-Some-Session.ensures.task) c.in-Some-Session.ensures.other
    (λ calm. session_ends _ c.session.result _ _ _ _ _ _ _ calm.0.input calm.0.told calm.0.short (λ is. calm.1 (c.session.ensures.read is)) (λ is. calm.2 (c.session.ensures.write is)) c.session.ensures.disk c.session.ensures.ran.ended)

pub returns-in-Some-Drill-clause-complete : goal.returns-in-Some-Drill-clause-complete
returns-in-Some-Drill-clause-complete g c = of_task _ _ _ (ap Some (sym c.in-Some-Drill.field-0-is) ∙ c.in-Some-Drill.ensures.task) c.in-Some-Drill.ensures.other
    (λ calm. written_finishes c.write_year.result _ _ (λ is. calm (c.write_year.ensures.write is)) c.write_year.ensures.writes.says)

-- ---- the file

pub returns-in-Some-Apply-clause-file : goal.returns-in-Some-Apply-clause-file
returns-in-Some-Apply-clause-file g c = of_task _ _ _ (ap Some (sym c.in-Some-Apply.field-0-is) ∙ c.in-Some-Apply.ensures.task) c.in-Some-Apply.ensures.other
    (λ over. c.apply.ensures.file)

pub returns-in-Some-Import-clause-file : goal.returns-in-Some-Import-clause-file
returns-in-Some-Import-clause-file g c = of_task _ _ _ (ap Some (sym c.in-Some-Import.field-0-is) ∙ c.in-Some-Import.ensures.task) c.in-Some-Import.ensures.other
    (λ over. c.import.ensures.file)

pub returns-in-Some-Write-clause-file : goal.returns-in-Some-Write-clause-file
returns-in-Some-Write-clause-file g c = of_task _ _ _ (ap Some (sym c.in-Some-Write.field-0-is) ∙ c.in-Some-Write.ensures.task) c.in-Some-Write.ensures.other
    (λ over. c.write_over_journal-in-Some-Write.ensures.file)

pub returns-in-Some-Serve-clause-file : goal.returns-in-Some-Serve-clause-file
returns-in-Some-Serve-clause-file g c = of_task _ _ _ (ap Some (sym c.in-Some-Serve.field-0-is) ∙ c.in-Some-Serve.ensures.task) c.in-Some-Serve.ensures.other
    (λ over. c.serve_over.ensures.file)

pub returns-in-Some-clause-file : goal.returns-in-Some-clause-file
returns-in-Some-clause-file g c = of_query _ _ _ c.in-None.ensures.task c.in-Some.ensures.only (λ over. c.write_over_journal.ensures.file)

pub returns-in-None-read_asking-clause-file : goal.returns-in-None-read_asking-clause-file
returns-in-None-read_asking-clause-file g c = of_none _ _ c.in-None.ensures.task (asks_none _ c.in-None-read_asking.ensures.only)

pub returns-in-Some-Init-clause-file : goal.returns-in-Some-Init-clause-file
returns-in-Some-Init-clause-file g c = of_task _ _ _ (ap Some (sym c.in-Some-Init.field-0-is) ∙ c.in-Some-Init.ensures.task) c.in-Some-Init.ensures.other
    (λ over. absurd over)

pub returns-in-Some-Session-clause-file : goal.returns-in-Some-Session-clause-file
returns-in-Some-Session-clause-file g c = of_task _ _ _ (ap Some (sym c.in-Some-Session.field-0-is) ∙ c.in-Some-Session.ensures.task) c.in-Some-Session.ensures.other
    (λ over. absurd over)

pub returns-in-Some-Drill-clause-file : goal.returns-in-Some-Drill-clause-file
returns-in-Some-Drill-clause-file g c = of_task _ _ _ (ap Some (sym c.in-Some-Drill.field-0-is) ∙ c.in-Some-Drill.ensures.task) c.in-Some-Drill.ensures.other
    (λ over. absurd over)

-- ---- the input

pub returns-in-Some-Apply-clause-unread : goal.returns-in-Some-Apply-clause-unread
returns-in-Some-Apply-clause-unread g c = of_task _ _ _ (ap Some (sym c.in-Some-Apply.field-0-is) ∙ c.in-Some-Apply.ensures.task) c.in-Some-Apply.ensures.other
    (λ unread. absurd (unread tt))

pub returns-in-Some-Import-clause-unread : goal.returns-in-Some-Import-clause-unread
returns-in-Some-Import-clause-unread g c = of_task _ _ _ (ap Some (sym c.in-Some-Import.field-0-is) ∙ c.in-Some-Import.ensures.task) c.in-Some-Import.ensures.other
    (λ unread. absurd (unread tt))

pub returns-in-Some-Session-clause-unread : goal.returns-in-Some-Session-clause-unread
returns-in-Some-Session-clause-unread g c = of_task _ _ _ (ap Some (sym c.in-Some-Session.field-0-is) ∙ c.in-Some-Session.ensures.task) c.in-Some-Session.ensures.other
    (λ unread. absurd (unread tt))

pub returns-in-Some-Write-clause-unread : goal.returns-in-Some-Write-clause-unread
returns-in-Some-Write-clause-unread g c = of_task _ _ _ (ap Some (sym c.in-Some-Write.field-0-is) ∙ c.in-Some-Write.ensures.task) c.in-Some-Write.ensures.other
    (λ unread. c.write_over_journal-in-Some-Write.ensures.unread unread)

pub returns-in-Some-Serve-clause-unread : goal.returns-in-Some-Serve-clause-unread
returns-in-Some-Serve-clause-unread g c = of_task _ _ _ (ap Some (sym c.in-Some-Serve.field-0-is) ∙ c.in-Some-Serve.ensures.task) c.in-Some-Serve.ensures.other
    (λ unread. refl)

pub returns-in-Some-Drill-clause-unread : goal.returns-in-Some-Drill-clause-unread
returns-in-Some-Drill-clause-unread g c = of_task _ _ _ (ap Some (sym c.in-Some-Drill.field-0-is) ∙ c.in-Some-Drill.ensures.task) c.in-Some-Drill.ensures.other
    (λ unread. refl)

pub returns-in-Some-Init-clause-unread : goal.returns-in-Some-Init-clause-unread
returns-in-Some-Init-clause-unread g c = of_task _ _ _ (ap Some (sym c.in-Some-Init.field-0-is) ∙ c.in-Some-Init.ensures.task) c.in-Some-Init.ensures.other
    (λ unread. refl)

pub returns-in-Some-clause-unread : goal.returns-in-Some-clause-unread
returns-in-Some-clause-unread g c = of_query _ _ _ c.in-None.ensures.task c.in-Some.ensures.only (λ unread. c.write_over_journal.ensures.unread unread)

pub returns-in-None-read_asking-clause-unread : goal.returns-in-None-read_asking-clause-unread
returns-in-None-read_asking-clause-unread g c = of_none _ _ c.in-None.ensures.task (asks_none _ c.in-None-read_asking.ensures.only)

-- ---- texts

pub returns-in-Some-Init-clause-text : goal.returns-in-Some-Init-clause-text
returns-in-Some-Init-clause-text g c = no_text _ _ _ (ap Some (sym c.in-Some-Init.field-0-is) ∙ c.in-Some-Init.ensures.task) c.in-Some-Init.ensures.other tt

pub returns-in-Some-Init-clause-no_report : goal.returns-in-Some-Init-clause-no_report
returns-in-Some-Init-clause-no_report g c = no_text _ _ _ (ap Some (sym c.in-Some-Init.field-0-is) ∙ c.in-Some-Init.ensures.task) c.in-Some-Init.ensures.other tt

pub returns-in-Some-Apply-clause-text : goal.returns-in-Some-Apply-clause-text
returns-in-Some-Apply-clause-text g c = no_text _ _ _ (ap Some (sym c.in-Some-Apply.field-0-is) ∙ c.in-Some-Apply.ensures.task) c.in-Some-Apply.ensures.other tt

pub returns-in-Some-Apply-clause-no_report : goal.returns-in-Some-Apply-clause-no_report
returns-in-Some-Apply-clause-no_report g c = no_text _ _ _ (ap Some (sym c.in-Some-Apply.field-0-is) ∙ c.in-Some-Apply.ensures.task) c.in-Some-Apply.ensures.other tt

pub returns-in-Some-Session-clause-text : goal.returns-in-Some-Session-clause-text
returns-in-Some-Session-clause-text g c = no_text _ _ _ (ap Some (sym c.in-Some-Session.field-0-is) ∙ c.in-Some-Session.ensures.task) c.in-Some-Session.ensures.other tt

pub returns-in-Some-Session-clause-no_report : goal.returns-in-Some-Session-clause-no_report
returns-in-Some-Session-clause-no_report g c = no_text _ _ _ (ap Some (sym c.in-Some-Session.field-0-is) ∙ c.in-Some-Session.ensures.task) c.in-Some-Session.ensures.other tt

pub returns-in-Some-Import-clause-text : goal.returns-in-Some-Import-clause-text
returns-in-Some-Import-clause-text g c = no_text _ _ _ (ap Some (sym c.in-Some-Import.field-0-is) ∙ c.in-Some-Import.ensures.task) c.in-Some-Import.ensures.other tt

pub returns-in-Some-Import-clause-no_report : goal.returns-in-Some-Import-clause-no_report
returns-in-Some-Import-clause-no_report g c = no_text _ _ _ (ap Some (sym c.in-Some-Import.field-0-is) ∙ c.in-Some-Import.ensures.task) c.in-Some-Import.ensures.other tt

pub returns-in-Some-Drill-clause-text : goal.returns-in-Some-Drill-clause-text
returns-in-Some-Drill-clause-text g c = no_text _ _ _ (ap Some (sym c.in-Some-Drill.field-0-is) ∙ c.in-Some-Drill.ensures.task) c.in-Some-Drill.ensures.other tt

pub returns-in-Some-Drill-clause-no_report : goal.returns-in-Some-Drill-clause-no_report
returns-in-Some-Drill-clause-no_report g c = no_text _ _ _ (ap Some (sym c.in-Some-Drill.field-0-is) ∙ c.in-Some-Drill.ensures.task) c.in-Some-Drill.ensures.other tt

pub returns-in-Some-Serve-clause-text : goal.returns-in-Some-Serve-clause-text
returns-in-Some-Serve-clause-text g c = no_text _ _ _ (ap Some (sym c.in-Some-Serve.field-0-is) ∙ c.in-Some-Serve.ensures.task) c.in-Some-Serve.ensures.other tt

pub returns-in-Some-Serve-clause-no_report : goal.returns-in-Some-Serve-clause-no_report
returns-in-Some-Serve-clause-no_report g c = no_text _ _ _ (ap Some (sym c.in-Some-Serve.field-0-is) ∙ c.in-Some-Serve.ensures.task) c.in-Some-Serve.ensures.other tt

pub returns-in-Some-Write-clause-text : goal.returns-in-Some-Write-clause-text
returns-in-Some-Write-clause-text g c = text_of_task _ _ _ (ap Some (sym c.in-Some-Write.field-0-is) ∙ c.in-Some-Write.ensures.task) c.in-Some-Write.ensures.other c.write_over_journal-in-Some-Write.ensures.written

pub returns-in-Some-clause-text : goal.returns-in-Some-clause-text
returns-in-Some-clause-text g c = text_of_query _ _ _ c.in-None.ensures.task c.in-Some.ensures.only c.write_over_journal.ensures.written

pub returns-in-None-read_asking-clause-text : goal.returns-in-None-read_asking-clause-text
returns-in-None-read_asking-clause-text g c = text_of_none _ _ c.in-None.ensures.task (asks_none _ c.in-None-read_asking.ensures.only)

pub returns-in-Some-Write-clause-no_report : goal.returns-in-Some-Write-clause-no_report
returns-in-Some-Write-clause-no_report g c = text_of_task _ _ _ (ap Some (sym c.in-Some-Write.field-0-is) ∙ c.in-Some-Write.ensures.task) c.in-Some-Write.ensures.other c.write_over_journal-in-Some-Write.ensures.idle

pub returns-in-Some-clause-no_report : goal.returns-in-Some-clause-no_report
returns-in-Some-clause-no_report g c = text_of_query _ _ _ c.in-None.ensures.task c.in-Some.ensures.only c.write_over_journal.ensures.idle

pub returns-in-None-read_asking-clause-no_report : goal.returns-in-None-read_asking-clause-no_report
returns-in-None-read_asking-clause-no_report g c = text_of_none _ _ c.in-None.ensures.task (asks_none _ c.in-None-read_asking.ensures.only)

pub returns-in-None-read_asking-clause-usage : goal.returns-in-None-read_asking-clause-usage
returns-in-None-read_asking-clause-usage g c = (λ is. (sym c.in-None.ensures.task, asks_none _ c.in-None-read_asking.ensures.only), λ unknown. refl)
