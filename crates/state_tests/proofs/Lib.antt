mod DrivenLemmas
