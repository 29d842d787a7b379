mod AppendLemmas
