-- The links of its row are sent.
use Rattle.arrivals.proofs.FireLaws.{marks_fired}
use Rattle.arrivals.proofs.fire.Goals as goal

pub returns : goal.returns
returns c =
    let A = c.args in
    record {
      fired = λ d m g r h. marks_fired d A.rows.now A.x A.w c.send.result c.send.ensures m g r h;
      then = c.send.ensures.then;
      knob = c.send.ensures.knob;
      runs = c.send.ensures.runs;
    }
