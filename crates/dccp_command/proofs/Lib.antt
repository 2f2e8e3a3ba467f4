mod FormEnds
