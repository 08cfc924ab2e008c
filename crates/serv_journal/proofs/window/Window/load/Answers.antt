use Rattle.std.proofs.Common.{rules, ap, sym, ◌∙◌}
use borrow.Rule.Slice.PartMut.{post_of}
use Rattle.serv_journal.specs.Windows.{WindowState}
use Rattle.serv_journal.proofs.StaysLemmas.{stays_here, stays_call}
use Rattle.serv_journal.proofs.ReadingLemmas.{window_shown}
use Rattle.serv_journal.proofs.window.Window.load.Goals as goal

pub returns-clause-reading : goal.returns-clause-reading
returns-clause-reading g c = record {
  stays = stays_call _ _ _ _ (stays_here _ c.args.disk.now (g.met.D.Disk.only_now c.args.disk.now)) c.read.ensures.kept c.read.ensures.crash c.read.ensures.time;
  later = c.read.ensures.cause.later;
  size = ap (λ (w : WindowState). w.size) c.self.view_is;
  shows = λ s is.
      let was = sym c.read.ensures.kept ∙ is in
      record {
        size = ap (λ (w : WindowState). w.size) c.self.view_is ∙ (c.requires.shows s was).size;
        bytes = window_shown c.read.new.buf (post_of 0 c.min-count.result c.self.inside.room) _ c.min-count.result _ (search rules) (c.in_ok-read.ensures.bytes s was);
      };
}
