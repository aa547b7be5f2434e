use Rattle.std.proofs.Common.{sym}
use Rattle.std.proofs.lemmas.List.{drop-drop}
use Rattle.push.proofs.stack.Stack.pop.Goals as goal

pub returns : goal.returns
returns c = rw (sym c.self.view_is) (sym (drop-drop 1 c.self.inside.top c.self.inside.items))
