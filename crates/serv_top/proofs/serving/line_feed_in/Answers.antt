use Rattle.serv_top.proofs.FeedLemmas.{first_feed}
use Rattle.serv_top.proofs.serving.line_feed_in.Goals as goal

pub returns : goal.returns
returns c = first_feed c.args.bytes.now c.memchr.result c.memchr.ensures
