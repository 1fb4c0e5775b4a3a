-- M and W, as a contract has them: one value, at one moment or at entry and exit. Assumes nothing.
use denote.Triple.Both.{Both}
use Rattle.pool.specs.Lent.{MutRef, MutSlice}
use Rattle.graph.specs.Graph.{Graph, graph}

abbrev pub graph_now : MutRef → MutRef → Graph
graph_now m w = graph m.now w.now

abbrev pub lent_graph : MutSlice → MutSlice → Both Graph Graph
lent_graph m w = record { entry = graph_now m.entry w.entry; exit = graph_now m.exit w.exit }
