mod NodesLemmas
