use Rattle.exploring.proofs.playing.play_orders.Goals as goal

pub loop-init : goal.loop-init
loop-init g c = c.new-explorer.ensures _
